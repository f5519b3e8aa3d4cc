-- What a run over the requests of a trial never ends with.
use Rattle.std.proofs.Common.{◌≡◌, ◌≢◌, ◌⊎◌, inl, inr, ℕ, true, false, Bool, IsTrue, List, Some, None, arith, refl, ap, sym, subst, ◌∙◌}
use Rattle.std.proofs.lemmas.Bool.{false≢true}
use Rattle.std.specs.Prelude.{IfSome, if◌then◌else◌}
use Rattle.gaz_outside.specs.Outside.{SourceView, ShelfView, StationView, HasRisen, RisesOnce, left_of}
use Rattle.gaz_num.specs.Pieces.{is_too_long}
use Rattle.gaz_make.specs.Files.{request_text}
use Rattle.gaz_serve.specs.Serve.{Ends}
use Rattle.gaz_serve.specs.Ran.{ServeRan}
use Rattle.gaz_serve.specs.Trial.{ServedOrRefused, IsSound, trial_refusal}

left_is : (view : SourceView) (text : List ℕ) → IsTrue view.is_told → view.left ≡ text → left_of view ≡ Some text
unfolding left_of
left_is view text told is = ap (λ (b : Bool). if b then Some view.left else None) told ∙ ap Some is

few : is_too_long request_text ≡ false
few = refl

-- a refusal ends with 1, or with 3 where it couldn't be printed
refused_with : (status : ℕ) (text : List ℕ) → Ends (record { status = 1; text = trial_refusal }) status text → (status ≡ 1) ⊎ (status ≡ 3)
refused_with status text (inl whole) = inl whole.0
refused_with status text (inr cut) = inr cut.0

module _ {S F T : Type 0} (source : S → SourceView) (shelf : F → ShelfView) (station : T → StationView) (s s_now : S) (f f_now : F) (old new : T) (status : ℕ)
    (asks : (source s).left ≡ request_text) (sound : IsSound (source s)) (sound_now : IsSound (source s_now)) where
  served_others : ServeRan source shelf station s s_now f f_now old new status → (status ≢ 4) × (status ≢ 7)
  served_others ran = (
    λ is. let once = ran.source_failed is in let none = sound.faults in let none_now = sound_now.faults in omega (arith, once, none, none_now),
    λ is. false≢true (sym few ∙ subst (λ left. IfSome left (λ bytes. is_too_long bytes ≡ true)) (left_is (source s) request_text sound.told asks) (ran.past is)),
  )

  pub trial_others : ServedOrRefused source shelf station true s s_now f f_now old new status → (status ≢ 4) × (status ≢ 7)
  trial_others (inl served) = served_others served.0
  trial_others (inr refused) = elim (refused_with status _ refused.1.ends.2) [
    | inl one ↦ (λ is. omega (arith, one, is), λ is. omega (arith, one, is))
    | inr three ↦ (λ is. omega (arith, three, is), λ is. omega (arith, three, is))
  ]

  module _ (no_fault : HasRisen (station old).faults (station new).faults → ⊥) where
    no_three : RisesOnce (station old).faults (station new).faults → ⊥
    no_three once = no_fault (omega (arith, once))

    pub trial_complete : ServedOrRefused source shelf station true s s_now f f_now old new status → status ≢ 5 → status ≢ 6 → (status ≡ 0) ⊎ (status ≡ 1)
    trial_complete (inl served) not_starved not_none =
        let never = served_others served.0 in
        elim served.0.others [
          | inl is ↦ inl is
          | inr (inl is) ↦ absurd (no_three (served.0.station_failed is))
          | inr (inr (inl is)) ↦ absurd (never.0 is)
          | inr (inr (inr (inl is))) ↦ absurd (not_starved is)
          | inr (inr (inr (inr (inl is)))) ↦ absurd (not_none is)
          | inr (inr (inr (inr (inr is)))) ↦ absurd (never.1 is)
        ]
    trial_complete (inr refused) not_starved not_none = elim (refused_with status _ refused.1.ends.2) [
      | inl is ↦ inr is
      | inr is ↦ absurd (no_three (refused.1.station_failed is))
    ]
