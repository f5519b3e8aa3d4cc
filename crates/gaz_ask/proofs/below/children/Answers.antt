use Rattle.std.proofs.Common.{◌≤◌, ◌+◌, ◌∙◌, ap, subst, rules, Result, Ok, Err}
use Rattle.std.specs.Prelude.{OnOk}
use Rattle.gaz_outside.specs.Station.{StationView}
use Rattle.gaz_pages.specs.Held.{root_of}
use Rattle.gaz_kin.specs.Reads.{most_for_children}
use Rattle.gaz_kin.proofs.Answered.{if_err}
use Rattle.gaz_ask.proofs.OnDevice.{over_mirror}
use Rattle.gaz_ask.proofs.below.children.Goals as goal

on_ok : {T E : Type 0} (P Q : Type 0) (result : Result T E) → (P → Q) → OnOk result P → OnOk result Q
on_ok P Q (Ok given) to is = to is
on_ok P Q (Err fault) to is = is

pub returns-clause-held : goal.returns-clause-held
returns-clause-held g c =
    let view = g.T.Station.view in
    let over = c.over-store.result in
    let pages_are = c.over-store.ensures.pages in
    on_ok _ _ c.ask_children.result (λ is. over_mirror (view c.args.station.now) (view over.pages.station.now) (root_of c.args.mirror.now) c.in-Some.root over.root over.pages.extent
    (search rules) (ap (λ p. p.extent) pages_are ∙ c.new-pages.ensures.extent) c.over-store.ensures.root (ap (λ p. view p.station.now) pages_are ∙ ap view c.new-pages.ensures.station_now) c.requires.fits _ is)
    c.ask_children.ensures.held

pub returns-clause-answer : goal.returns-clause-answer
returns-clause-answer g c =
    let view = g.T.Station.view in
    let over = c.over-store.result in
    let pages_are = c.over-store.ensures.pages in
    on_ok _ _ c.ask_children.result (λ is. over_mirror (view c.args.station.now) (view over.pages.station.now) (root_of c.args.mirror.now) c.in-Some.root over.root over.pages.extent
    (search rules) (ap (λ p. p.extent) pages_are ∙ c.new-pages.ensures.extent) c.over-store.ensures.root (ap (λ p. view p.station.now) pages_are ∙ ap view c.new-pages.ensures.station_now) c.requires.fits _ is)
    c.ask_children.ensures.answer

pub returns-clause-damaged : goal.returns-clause-damaged
returns-clause-damaged g c =
    let view = g.T.Station.view in
    let over = c.over-store.result in
    let pages_are = c.over-store.ensures.pages in
    if_err _ _ c.ask_children.result (λ fault is. over_mirror (view c.args.station.now) (view over.pages.station.now) (root_of c.args.mirror.now) c.in-Some.root over.root over.pages.extent
    (search rules) (ap (λ p. p.extent) pages_are ∙ c.new-pages.ensures.extent) c.over-store.ensures.root (ap (λ p. view p.station.now) pages_are ∙ ap view c.new-pages.ensures.station_now) c.requires.fits _ is)
    c.ask_children.ensures.damaged

pub returns-clause-reads : goal.returns-clause-reads
returns-clause-reads g c told gaz mirrors =
    let view = g.T.Station.view in
    let over = c.over-store.result in
    let pages_are = c.over-store.ensures.pages in
    let start = ap (λ p. view p.station.now) pages_are ∙ ap view c.new-pages.ensures.station_now in
    let read : (view c.ask_children.new.store.pages.station.now).reads ≤ (view c.args.station.now).reads + most_for_children gaz c.args.id =
    subst (λ (v : StationView). (view c.ask_children.new.store.pages.station.now).reads ≤ v.reads + most_for_children gaz c.args.id) start
    (over_mirror (view c.args.station.now) (view over.pages.station.now) (root_of c.args.mirror.now) c.in-Some.root over.root over.pages.extent
    (search rules) (ap (λ p. p.extent) pages_are ∙ c.new-pages.ensures.extent) c.over-store.ensures.root start c.requires.fits _ c.ask_children.ensures.reads told gaz mirrors) in
    search (rules, read)
