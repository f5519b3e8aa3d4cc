-- Laid pages with the places in another order, with fewer pages kept for new records, and under another root with the same tree.
use Rattle.std.proofs.Common.{sym, ◌≡◌, ◌+◌, ◌*◌, ◌⊎◌, ℕ, List, ◌∷◌, subst, inl, inr}
use Rattle.std.specs.Prelude.{Contains}
use Rattle.gaz_page.specs.declared.tree_root.Root.{Root}
use Rattle.gaz_page.specs.Pages.{PagesView}
use Rattle.gaz_leaf.specs.Node.{Pair}
use Rattle.gaz_heap.specs.Heap.{HasUsed}
use Rattle.gaz_keys.proofs.Tags.{contained}
use Rattle.gaz_rows.specs.Stands.{Use, tree, slots, chain, free, HasSlots, IsFor}
use Rattle.gaz_rows.specs.Laid.{IsLaid, ends_of, AfterOrder, AfterKept, AfterRoot}
use Rattle.gaz_rows.proofs.LaidParts.{more_slots, more_for}
use Rattle.gaz_rows.proofs.LaidSlots.{is_used_by, slot_small}
use Rattle.gaz_rows.proofs.Members.{tail_is_in}

pub after_order : AfterOrder
after_order v root pairs kept places others laid to from =
    let once = laid.used_once in
    let keep : (n : ℕ) → Contains kept n → Contains kept n = λ n has. has in
    let back = more_for v.page (ends_of v root) kept kept others places once.frees keep from in
    record {
      tree = laid.tree;
      held = λ place has. laid.held place (from place has);
      used_once = record {
        frees = once.frees;
        free_chain = once.free_chain;
        used = λ n some below. let was = once.used n some below in (was.0, more_for v.page (ends_of v root) kept kept places others once.frees keep to was.0 n was.1);
        once = λ n one other is also. once.once n one other (back one n is) (back other n also);
        in_range = λ n what is. once.in_range n what (back what n is);
        in_form = λ n has. once.in_form n (more_slots kept kept others places keep from n has);
        no_more = λ n slot has used. to (n * 65536 + slot) (once.no_more n slot (more_slots kept kept others places keep from n has) used);
      };
    }

-- A page needn't be kept where one of its slots is used, or where it is none.
abbrev pub IsKeptBy : PagesView → List ℕ → ℕ → Type 0
IsKeptBy v less n = (n ≡ 0) ⊎ (HasUsed (v.page n) ⊎ Contains less n)

pub fewer_kept : (v : PagesView) (root : Root) (pairs : List Pair) (kept less places : List ℕ) → IsLaid v root pairs kept places
    → ((n : ℕ) → Contains less n → Contains kept n) → ((n : ℕ) → Contains kept n → IsKeptBy v less n) → IsLaid v root pairs less places
fewer_kept v root pairs kept less places laid within kept_by =
    let once = laid.used_once in
    let back = more_for v.page (ends_of v root) less kept places places once.frees within (λ n has. has) in
    record {
      tree = laid.tree;
      held = laid.held;
      used_once = record {
        frees = once.frees;
        free_chain = once.free_chain;
        used = λ n some below. let was = once.used n some below in (was.0, on was.0 n was.1);
        once = λ n one other is also. once.once n one other (back one n is) (back other n also);
        in_range = λ n what is. once.in_range n what (back what n is);
        in_form = λ n has. once.in_form n (more_slots less kept places places within (λ n has. has) n has);
        no_more = λ n slot has used. once.no_more n slot (more_slots less kept places places within (λ n has. has) n has) used;
      };
    }
  where
    still : (n : ℕ) → HasSlots kept places n → HasSlots less places n
    still n (inl has) = inl has
    still n (inr has) = elim (kept_by n has.0) [
      | inl none_ ↦ absurd (has.1 none_)
      | inr more ↦ elim more [
        | inl used ↦ inl (used.0, slot_small n used.0 (v.page n) (laid.used_once.in_form n (inr has)) used.1, laid.used_once.no_more n used.0 (inr has) (is_used_by (v.page n) used.0 used.1 used.2))
        | inr there ↦ inr (there, has.1)
      ]
    ]

    on : (what : Use) (n : ℕ) → IsFor v.page (ends_of v root) kept places laid.used_once.frees what n → IsFor v.page (ends_of v root) less places laid.used_once.frees what n
    on tree n is = is
    on slots n is = still n is
    on (chain p) n is = is
    on free n is = is

pub after_kept : AfterKept
after_kept v root pairs page kept places laid none_or =
    fewer_kept v root pairs (page ∷ kept) kept places laid (λ n has. tail_is_in page kept n has)
    (λ n has. elim (contained page kept n has) [
      | inl is ↦ subst (IsKeptBy v kept) is none_or
      | inr there ↦ inr (inr there)
    ])

pub after_root : AfterRoot
after_root v root other pairs kept places top height laid =
    let moved : IsLaid v (record root { top = other.top; height = other.height }) pairs kept places =
    subst (λ (r : Root). IsLaid v r pairs kept places) (λ i. record root { top = sym top i; height = sym height i }) laid in
    record {
      tree = moved.tree;
      held = moved.held;
      used_once = record {
        frees = moved.used_once.frees;
        free_chain = moved.used_once.free_chain;
        used = λ n some below. let was = moved.used_once.used n some below in (was.0, at was.0 n moved.used_once.frees was.1);
        once = λ n one more is also. moved.used_once.once n one more (back one n moved.used_once.frees is) (back more n moved.used_once.frees also);
        in_range = λ n what is. moved.used_once.in_range n what (back what n moved.used_once.frees is);
        in_form = moved.used_once.in_form;
        no_more = moved.used_once.no_more;
      };
    }
  where
    at : (what : Use) (n : ℕ) (frees : List ℕ) → IsFor v.page (ends_of v (record root { top = other.top; height = other.height })) kept places frees what n → IsFor v.page (ends_of v other) kept places frees what n
    at tree n frees is = is
    at slots n frees is = is
    at (chain p) n frees is = is
    at free n frees is = is

    back : (what : Use) (n : ℕ) (frees : List ℕ) → IsFor v.page (ends_of v other) kept places frees what n → IsFor v.page (ends_of v (record root { top = other.top; height = other.height })) kept places frees what n
    back tree n frees is = is
    back slots n frees is = is
    back (chain p) n frees is = is
    back free n frees is = is
