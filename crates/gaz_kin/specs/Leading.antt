-- Questions one after the other leave the same pages, for which whatever stood still stands.
use Rattle.std.proofs.Common.{◌≡◌, ◌+◌, ℕ, [], refl, sym, ◌∙◌, arith, subst, Result, Ok, Err}
use Rattle.std.specs.Prelude.{IsTrue, ◌↔◌}
use Rattle.gaz_parent.specs.Parent.{Lists}
use Rattle.gaz_parent.specs.Questions.{Question}
use Rattle.gaz_plain.specs.Gazetteer.{Gazetteer}
use Rattle.gaz_page.specs.declared.tree_root.Root.{Root}
use Rattle.gaz_page.specs.Pages.{PagesView}
use Rattle.gaz_rows.specs.declared.fault.AskFault.{AskFault}
use Rattle.gaz_rows.specs.declared.fault.AskFault.TheVariants.{Failed, Damaged, Memory}
use Rattle.gaz_rows.specs.Store.{IsStore, IsSound, HasAsked}
use Rattle.gaz_rows.proofs.Looked.{asked_on, asked_ok}
use Rattle.gaz_rows.proofs.SteppedOver.{stands_same}
use Rattle.gaz_kin.specs.Over.{OverStore, HasOnlyAsked}
use Rattle.gaz_kin.specs.declared.kept.Kept.{Kept}
use Rattle.gaz_kin.specs.Kept.{IsKept}
use Rattle.gaz_plain.specs.Kin.{lists_of}
use Rattle.gaz_kin.specs.Kin.{HasLists, HasMost, Led, Noted, Fails}

-- nothing was asked
pub asked_nothing : {T : Type 0} (v : PagesView) (given : T) → HasAsked 0 v v (Ok given)
asked_nothing v given = record {
  same = λ told. record { pages = refl; free = refl; fresh = refl };
  counts = record { told = refl; read_only = refl; reads_grow = omega arith; reads = omega arith; changed = omega arith };
  unchanged = refl;
  cause = record { grows = omega arith; counted = refl; starved = refl };
  no_memory = tt;
}

-- one question
pub one_asked : {T : Type 0} (most : ℕ) (old new : PagesView) (result : Result T AskFault) → HasAsked most old new result → HasOnlyAsked old new result
one_asked most old new result a = (most, a)

-- one question after others
pub only_on : {S T : Type 0} (old mid new : PagesView) (given : S) (result : Result T AskFault) → HasOnlyAsked {T = S} old mid (Ok given) → HasOnlyAsked mid new result → HasOnlyAsked old new result
only_on old mid new given result a b = (a.0 + b.0, asked_on a.0 b.0 (a.0 + b.0) old mid new given result (omega arith) a.1 b.1)

-- for an answer of another type
pub only_ok : {S T : Type 0} (old new : PagesView) (given : S) (other : T) → HasOnlyAsked old new (Ok given) → HasOnlyAsked old new (Ok other)
only_ok old new given other a = (a.0, asked_ok a.0 old new given other a.1)

pub asked_err : {S T : Type 0} (most : ℕ) (old new : PagesView) (fault : AskFault) → HasAsked {T = S} most old new (Err fault) → HasAsked {T = T} most old new (Err fault)
asked_err most old new Failed a = record { same = a.same; counts = a.counts; unchanged = a.unchanged; cause = record { grows = a.cause.grows; counted = a.cause.counted; starved = a.cause.starved }; no_memory = tt }
asked_err most old new (Damaged page) a = record { same = a.same; counts = a.counts; unchanged = a.unchanged; cause = record { grows = a.cause.grows; counted = a.cause.counted; starved = a.cause.starved }; no_memory = tt }
asked_err most old new Memory a = absurd (a.no_memory)

pub only_err : {S T : Type 0} (old new : PagesView) (fault : AskFault) → HasOnlyAsked {T = S} old new (Err fault) → HasOnlyAsked {T = T} old new (Err fault)
only_err old new fault a = (a.0, asked_err a.0 old new fault a.1)

-- the pages that answered stand for the same gazetteer
pub store_on : {T : Type 0} (gaz : Gazetteer) (old new : PagesView) (root root_now : Root) (given : T) → HasOnlyAsked old new (Ok given) → root_now ≡ root → IsTrue old.is_told → IsStore gaz old root → IsStore gaz new root_now
store_on gaz old new root root_now given a same told stands = stands_same [] gaz old new root root_now (a.1.same told) same stands

pub told_on : {T : Type 0} (old new : PagesView) (result : Result T AskFault) → HasOnlyAsked old new result → IsTrue old.is_told → IsTrue new.is_told
told_on old new result a told = subst IsTrue (sym a.1.counts.told) told

-- what holds over them holds over those of before
pub over_on : {T : Type 0} (P : Gazetteer → Type 0) (old new : PagesView) (root root_now : Root) (given : T) → HasOnlyAsked old new (Ok given) → root_now ≡ root → OverStore new root_now P → OverStore old root P
over_on P old new root root_now given a same over told gaz stands = over (told_on old new (Ok given) a told) gaz (store_on gaz old new root root_now given a same told stands)

-- ---- as the parent rule asks

pub led_same : (v : PagesView) (root : Root) → Led v v root root
led_same v root = record { root_stays = refl; asked = (0, asked_nothing v tt) }

pub led_on : (a b c : PagesView) (ra rb rc : Root) → Led a b ra rb → Led b c rb rc → Led a c ra rc
led_on a b c ra rb rc first then = record { root_stays = then.root_stays ∙ first.root_stays; asked = only_on a b c tt (Ok tt) first.asked then.asked }

pub noted_same : (v : PagesView) (root : Root) (kept : Kept) → Noted v root kept kept
noted_same v root kept told gaz stands is = is

pub noted_on : (a b : PagesView) (ra rb : Root) (one two three : Kept) → Led a b ra rb → Noted a ra one two → Noted b rb two three → Noted a ra one three
noted_on a b ra rb one two three led first then told gaz stands is =
    over_on (λ gaz. IsKept (lists_of gaz) two → IsKept (lists_of gaz) three) a b ra rb tt led.asked led.root_stays then told gaz stands (first told gaz stands is)

pub fails_on : (a b c : PagesView) (ra rb rc : Root) (fault : AskFault) → Led a b ra rb → Fails b c rb rc fault → Fails a c ra rc fault
fails_on a b c ra rb rc fault first then = record {
  root_stays = then.root_stays ∙ first.root_stays;
  asked = only_on a b c tt (Err fault) first.asked then.asked;
  sound = over_on (λ gaz. IsSound fault) a b ra rb tt first.asked first.root_stays then.sound;
}

-- the pages of before stand for it too
back : (a b : PagesView) (ra rb : Root) → Led a b ra rb → IsTrue b.is_told → (gaz : Gazetteer) → IsStore gaz b rb → IsStore gaz a ra
back a b ra rb led told gaz stands =
    let told_then : IsTrue a.is_told = subst IsTrue led.asked.1.counts.told told in
    let same = led.asked.1.same told_then in
    stands_same [] gaz b a rb ra (record { pages = sym same.pages; free = sym same.free; fresh = sym same.fresh }) (sym led.root_stays) stands

pub lists_on : (a b : PagesView) (ra rb : Root) (lists : Lists) → Led a b ra rb → (HasLists a ra lists ↔ HasLists b rb lists)
lists_on a b ra rb lists led = (
  λ has. record { told = told_on a b (Ok tt) led.asked has.told; gaz = has.gaz; stands = store_on has.gaz a b ra rb tt led.asked led.root_stays has.told has.stands; are = has.are },
  λ has. record { told = subst IsTrue led.asked.1.counts.told has.told; gaz = has.gaz; stands = back a b ra rb led has.told has.gaz has.stands; are = has.are },
)

pub kept_on : (a b : PagesView) (ra rb : Root) (lists : Lists) (old new : Kept) → Led a b ra rb → new ≡ old → (HasLists a ra lists × IsKept lists old ↔ HasLists b rb lists × IsKept lists new)
kept_on a b ra rb lists old new led same = (
  λ has. ((lists_on a b ra rb lists led).0 has.0, subst (IsKept lists) (sym same) has.1),
  λ has. ((lists_on a b ra rb lists led).1 has.0, subst (IsKept lists) same has.1),
)

pub most_on : (a b : PagesView) (ra rb : Root) (question : Question) (most : ℕ) → Led a b ra rb → (HasMost a ra question most ↔ HasMost b rb question most)
most_on a b ra rb question most led = (
  λ has. record { told = told_on a b (Ok tt) led.asked has.told; gaz = has.gaz; stands = store_on has.gaz a b ra rb tt led.asked led.root_stays has.told has.stands; reads = has.reads },
  λ has. record { told = subst IsTrue led.asked.1.counts.told has.told; gaz = has.gaz; stands = back a b ra rb led has.told has.gaz has.stands; reads = has.reads },
)
