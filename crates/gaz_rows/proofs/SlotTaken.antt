-- The slot that an admin code has once it has come.
use Rattle.std.proofs.Common.{◌≡◌, ◌<◌, ◌^◌, ℕ, List, [], ◌∷◌, refl, sym, ◌∙◌, ap, subst, true, Option, Some, None}
use Rattle.std.specs.Prelude.{Contains, is_some, option_and_then}
use Rattle.gaz_num.specs.declared.words.Kind.{Kind}
use Rattle.gaz_num.specs.declared.words.Kind.TheVariants as kinds
use Rattle.gaz_num.specs.declared.words.Table.TheVariants.{Codes}
use Rattle.gaz_num.specs.Pieces.{column}
use Rattle.gaz_num.specs.Check.{key_in}
use Rattle.gaz_name.specs.Name.{first_bytes}
use Rattle.gaz_keys.proofs.Fit.{first_size}
use Rattle.gaz_page.specs.declared.tree_root.Root.{Root}
use Rattle.gaz_page.specs.Pages.{PagesView}
use Rattle.gaz_plain.specs.Gazetteer.{Gazetteer, table_of, is_delete, line_with}
use Rattle.gaz_leaf.specs.Node.{Pair, key_of}
use Rattle.gaz_tree.specs.Pairs.{lookup, put}
use Rattle.gaz_tree.specs.Tree.{IsTop}
use Rattle.gaz_heap.specs.Place.{record_at}
use Rattle.gaz_keys.specs.Keys.{IsKey, code_key}
use Rattle.gaz_keys.specs.Parts.{tag_of, slot_of}
use Rattle.gaz_keys.specs.Lines.{key_at, more_keys}
use Rattle.gaz_keys.proofs.Tags.{tag_for, tag_at}
use Rattle.gaz_rows.specs.Index.{Slots, line_key}
use Rattle.gaz_rows.specs.Stands.{StandsForBut, value_in}
use Rattle.gaz_rows.specs.Laid.{ends_of}
use Rattle.gaz_rows.specs.Steps.{IsSlotFor, pair_at}
use Rattle.gaz_rows.specs.Change.{HasCome}
use Rattle.gaz_rows.specs.Stepping.{IsKeyOver}
use Rattle.gaz_rows.proofs.Keyed.{IsThatOf, some_inj, that_of}
use Rattle.gaz_rows.proofs.One.{one_tree}
use Rattle.gaz_rows.proofs.Ranged.{slot_read}
use Rattle.gaz_rows.proofs.Settled.{put_there}
use Rattle.gaz_rows.proofs.SteppedOver.{code_kind}

-- Pages that stand for a gazetteer have its code in the slot of the key at which its line stands.
slot_taken : (next : Gazetteer) (new : PagesView) (last : Root) (after : StandsForBut [] next new.page (ends_of new last)) (line key : List ℕ) (slot : ℕ) → slot < 2 ^ 32 → IsKey key → key_at Codes slot line ≡ key
    → (pairs : List Pair) → IsTop new.page last.height last.top pairs → (place : ℕ) → lookup (key_of key) pairs ≡ Some place → record_at new.page place ≡ Some line → after.slots (column 1 line) ≡ slot
slot_taken next new last after line key slot small fits is pairs top place at stands =
    sym (slot_read first (first_size 23 (column 1 line)) (after.slots (column 1 line)) small_now) ∙ ap slot_of same_keys ∙ slot_read first (first_size 23 (column 1 line)) slot small
  where
    first : List ℕ
    first = first_bytes 23 (column 1 line)

    at_now : lookup (key_of key) after.pairs ≡ Some place
    at_now = ap (lookup (key_of key)) (one_tree new.page last.height last.top after.pairs pairs after.tree top) ∙ at

    other : IsThatOf after.slots next Codes key
    other = that_of after.slots next Codes key (ap tag_of (sym is) ∙ tag_at Codes slot line) (after.indexed.only key fits (ap is_some at_now))

    same_line : other.line ≡ line
    same_line = some_inj other.line line (sym (after.indexed.lines Codes other.line other.there) ∙ ap (λ k. option_and_then (record_at new.page) (lookup (key_of k) after.pairs)) other.is ∙ ap (option_and_then (record_at new.page)) at_now ∙ stands)

    small_now : after.slots (column 1 line) < 2 ^ 32
    small_now = after.indexed.slots_differ.fit line (subst (Contains next.codes) same_line other.there)

    same_keys : code_key first (after.slots (column 1 line)) ≡ code_key first slot
    same_keys = subst (λ l. line_key after.slots Codes l ≡ key) same_line other.is ∙ sym is

-- So a code that came has the slot that was chosen for it.
pub takes_slot : (gaz next : Gazetteer) (slots : Slots) (kind : Kind) (line key : List ℕ) (over : IsKeyOver gaz slots kind line key) → IsKey key → (v new : PagesView) (last : Root)
    → (after : StandsForBut [] next new.page (ends_of new last)) (pairs : List Pair) (places : List ℕ) → HasCome v new last pairs places key (more_keys (table_of kind) line) line → (code : List ℕ) → table_of kind ≡ Codes
    → key_in kind line ≡ Some code → IsSlotFor slots gaz code (after.slots code)
takes_slot gaz next slots kind line key over fits v new last after pairs places come code codes keyed =
    subst (λ text. IsSlotFor slots gaz text (after.slots text)) own (subst (IsSlotFor slots gaz (column 1 line)) (sym same) (over.chosen codes))
  where
    own : column 1 line ≡ code
    own = some_inj (column 1 line) code (subst (λ k. key_in k line ≡ Some code) (code_kind kind codes) keyed)

    here : HasCome v new last pairs places key (more_keys Codes line) line
    here = subst (λ t. HasCome v new last pairs places key (more_keys t line) line) codes come

    same : after.slots (column 1 line) ≡ over.now (column 1 line)
    same = slot_taken next new last after line key (over.now (column 1 line)) (over.slot codes).small fits (subst (λ t. line_key over.now t line ≡ key) codes over.is)
        (put (pair_at key here.place) pairs) here.changed.laid.tree.top here.place (put_there (pair_at key here.place) pairs) (here.changed.left.there line refl)

-- A line of codes is put.
pub puts_codes : (kind : Kind) → table_of kind ≡ Codes → is_delete kind ≡ true → ⊥
puts_codes kind codes deletes = differ (subst (λ k. is_delete k ≡ true) (code_kind kind codes) deletes)
  where
    differ : is_delete kinds.Code ≡ true → ⊥
    differ same = cc
