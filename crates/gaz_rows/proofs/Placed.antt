-- The line at the place of a key.
use Rattle.std.proofs.Common.{◌≡◌, ℕ, List, refl, sym, ◌∙◌, ap, subst, Some, take, Result, Ok, Err}
use Rattle.std.specs.Prelude.{IsTrue, IsSome, option_and_then, is_some, IfOk, IfErr}
use Rattle.gaz_num.specs.Pieces.{column}
use Rattle.gaz_plain.specs.Gazetteer.{Gazetteer}
use Rattle.gaz_page.specs.declared.tree_root.Root.{Root}
use Rattle.gaz_page.specs.Pages.{PagesView}
use Rattle.gaz_heap.specs.Place.{record_at}
use Rattle.gaz_leaf.specs.Node.{key_of}
use Rattle.gaz_tree.specs.Pairs.{lookup}
use Rattle.gaz_rows.specs.declared.fault.AskFault.{AskFault}
use Rattle.gaz_rows.specs.Index.{line_key, IsKeyOf}
use Rattle.gaz_rows.specs.Stands.{value_in}
use Rattle.gaz_rows.specs.Laid.{ends_of}
use Rattle.gaz_rows.specs.Store.{IsStoreBut, IsSound}
use Rattle.gaz_rows.specs.Found.{IsPlaceOf, IsLineOf, OverPlace}
use Rattle.gaz_rows.proofs.Got.{value_is}
use Rattle.gaz_rows.proofs.Keyed.{placed, some_inj}
use Rattle.gaz_rows.proofs.One.{one_tree}

module _ (v : PagesView) (root : Root) (waiting : List (List ℕ)) (gaz : Gazetteer) (stands : IsStoreBut waiting gaz v root) (key : List ℕ) (place : ℕ) (is : IsPlaceOf v root key place) where
  value_here : value_in waiting stands.pairs key ≡ Some place
  value_here =
      value_is waiting gaz v.page (ends_of v root) stands key is.placed
      ∙ ap (lookup (key_of key)) (one_tree v.page root.height root.top stands.pairs is.pairs stands.tree is.top) ∙ is.at

  of : IsKeyOf stands.slots gaz key
  of = stands.indexed.only key is.is_key (rw value_here refl)

  same : line_key stands.slots of.table of.line ≡ key
  same = placed stands.slots gaz key is.placed of

  stands_here : record_at v.page place ≡ Some of.line
  stands_here =
      sym (ap (option_and_then (record_at v.page)) value_here)
      ∙ ap (λ k. option_and_then (record_at v.page) (value_in waiting stands.pairs k)) (sym same)
      ∙ stands.indexed.lines of.table of.line of.there

  pub has_record : IsSome (record_at v.page place)
  has_record = ap is_some stands_here

  pub is_line : (bytes : List ℕ) → record_at v.page place ≡ Some bytes → IsLineOf gaz key bytes
  is_line bytes there =
      subst (IsLineOf gaz key) (some_inj of.line bytes (sym stands_here ∙ there))
      (record { table = of.table; slot = stands.slots (column 1 of.line); there = of.there; is = same })

pub line_placed : {E : Type 0} (v : PagesView) (root : Root) (place : ℕ) (buf : List ℕ) (result : Result ℕ E) → IfOk result (λ size. IsTrue v.is_told → IsSome (record_at v.page place) → record_at v.page place ≡ Some (take size buf)) → IfOk result (λ size. OverPlace v root place (λ gaz key. IsLineOf gaz key (take size buf)))
line_placed v root place buf (Ok size) got = λ told waiting gaz stands key is.
    is_line v root waiting gaz stands key place is (take size buf) (got told (has_record v root waiting gaz stands key place is))
line_placed v root place buf (Err fault) got = tt

pub line_sound : {T : Type 0} (v : PagesView) (root : Root) (place : ℕ) (result : Result T AskFault) → IfErr result (λ fault. IsTrue v.is_told → IsSome (record_at v.page place) → IsSound fault) → IfErr result (λ fault. OverPlace v root place (λ gaz key. IsSound fault))
line_sound v root place (Ok given) fails = tt
line_sound v root place (Err fault) fails = λ told waiting gaz stands key is. fails told (has_record v root waiting gaz stands key place is)
