use Rattle.std.proofs.Common.{◌≤◌, ◌+◌, ◌∙◌, ap, subst, rules}
use Rattle.gaz_outside.specs.Station.{StationView}
use Rattle.gaz_pages.specs.Held.{root_of}
use Rattle.gaz_kin.proofs.Answered.{if_ok, if_err}
use Rattle.gaz_ask.proofs.OnDevice.{over_mirror}
use Rattle.gaz_ask.proofs.lines.get_row.Goals as goal

pub returns-clause-line : goal.returns-clause-line
returns-clause-line g c =
    let view = g.T.Station.view in
    let over = c.over-store.result in
    let pages_are = c.over-store.ensures.pages in
    if_ok _ _ c.ask_row.result (λ given is. over_mirror (view c.args.station.now) (view over.pages.station.now) (root_of c.args.mirror.now) c.in-Some.root over.root over.pages.extent
    (search rules) (ap (λ p. p.extent) pages_are ∙ c.new-pages.ensures.extent) c.over-store.ensures.root (ap (λ p. view p.station.now) pages_are ∙ ap view c.new-pages.ensures.station_now) c.requires.fits _ is)
    c.ask_row.ensures.line

pub returns-clause-damaged : goal.returns-clause-damaged
returns-clause-damaged g c =
    let view = g.T.Station.view in
    let over = c.over-store.result in
    let pages_are = c.over-store.ensures.pages in
    if_err _ _ c.ask_row.result (λ fault is. over_mirror (view c.args.station.now) (view over.pages.station.now) (root_of c.args.mirror.now) c.in-Some.root over.root over.pages.extent
    (search rules) (ap (λ p. p.extent) pages_are ∙ c.new-pages.ensures.extent) c.over-store.ensures.root (ap (λ p. view p.station.now) pages_are ∙ ap view c.new-pages.ensures.station_now) c.requires.fits _ is)
    c.ask_row.ensures.damaged

pub returns-clause-reads : goal.returns-clause-reads
returns-clause-reads g c told gaz mirrors =
    let view = g.T.Station.view in
    let over = c.over-store.result in
    let pages_are = c.over-store.ensures.pages in
    let start = ap (λ p. view p.station.now) pages_are ∙ ap view c.new-pages.ensures.station_now in
    let read : (view c.ask_row.new.store.pages.station.now).reads ≤ (view c.args.station.now).reads + 23 =
    subst (λ (v : StationView). (view c.ask_row.new.store.pages.station.now).reads ≤ v.reads + 23) start
    (over_mirror (view c.args.station.now) (view over.pages.station.now) (root_of c.args.mirror.now) c.in-Some.root over.root over.pages.extent
    (search rules) (ap (λ p. p.extent) pages_are ∙ c.new-pages.ensures.extent) c.over-store.ensures.root start c.requires.fits _ c.ask_row.ensures.reads told gaz mirrors) in
    search (rules, read)
