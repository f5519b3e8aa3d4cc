-- Pages of which one was taken for a tree without pairs stand for the empty gazetteer.
use Rattle.std.proofs.Common.{◌≡◌, ◌<◌, ◌≤◌, ◌+◌, ◌*◌, ℕ, List, [], ◌∷◌, refl, sym, ◌∙◌, arith, subst, inl, inr, true, Option, Some, None, Err}
use Rattle.std.specs.Prelude.{◌⊎◌, Contains, is_some}
use Rattle.gaz_num.specs.declared.words.Table.{Table}
use Rattle.gaz_num.specs.declared.words.Table.TheVariants.{Rows, Alternates, Links, Countries, Codes}
use Rattle.gaz_plain.specs.Gazetteer.{IsGazetteer, IsTable, empty, dated, lines_in}
use Rattle.gaz_page.specs.declared.tree_root.Root.{Root}
use Rattle.gaz_page.specs.declared.pages.PageFault.{PageFault}
use Rattle.gaz_page.specs.declared.pages.PageFault.TheVariants as page
use Rattle.gaz_page.specs.Pages.{PagesView, IsDamaged, damage}
use Rattle.gaz_heap.specs.Place.{record_at}
use Rattle.gaz_heap.proofs.NewPuts.{in_use_of}
use Rattle.gaz_tree.specs.Put.{HasChain, IsFree, Trades}
use Rattle.gaz_tree.specs.Stands.{Stands as IsTreeOf, OfTree}
use Rattle.gaz_tree.proofs.Chains.{on_chain}
use Rattle.gaz_tree.proofs.Trading.{in_chain}
use Rattle.gaz_keys.proofs.Tags.{contained, contained_none}
use Rattle.gaz_rows.specs.declared.fault.AskFault.{AskFault}
use Rattle.gaz_rows.specs.Faults.{fault_of}
use Rattle.gaz_rows.specs.Index.{IsIndexed}
use Rattle.gaz_rows.specs.Laid.{ends_of, tree_in}
use Rattle.gaz_rows.specs.Stands.{Use, tree, slots, chain, free, IsFor, HasSlots, AreUsedOnce, value_in, counts_of}
use Rattle.gaz_rows.specs.Store.{IsStore, IsUndamaged}
use Rattle.gaz_rows.proofs.AtFirst.{empty_is}
use Rattle.gaz_rows.proofs.LaidForms.{contains_of, among_of, linked_of, tree_form, tree_not_free}

-- no line is in the empty gazetteer
no_line : (date : ℕ) (table : Table) (line : List ℕ) → Contains (lines_in (dated empty date) table) line → ⊥
no_line date Rows line has = contained_none line has
no_line date Alternates line has = contained_none line has
no_line date Links line has = contained_none line has
no_line date Countries line has = contained_none line has
no_line date Codes line has = contained_none line has

dated_is : (date : ℕ) → IsGazetteer (dated empty date)
dated_is date = record { tables = each; undated = λ is. absurd (never is) }
  where
    never : Some date ≡ None → ⊥
    never is = cc

    each : (table : Table) → IsTable table (lines_in (dated empty date) table)
    each Rows = empty_is.tables Rows
    each Alternates = empty_is.tables Alternates
    each Links = empty_is.tables Links
    each Countries = empty_is.tables Countries
    each Codes = empty_is.tables Codes

none_some : is_some {T = ℕ} None ≡ true → ⊥
none_some is = cc

-- without pairs nothing is in the index
none_indexed : (date : ℕ) (bytes : ℕ → Option (List ℕ)) → IsIndexed (λ code. 0) (dated empty date) (value_in [] []) bytes
none_indexed date bytes = record {
  all = λ key of. absurd (no_line date of.table of.line of.there);
  only = λ key is some. absurd (none_some some);
  lines = λ table line has. absurd (no_line date table line has);
  zeros = λ table line key has among. absurd (no_line date table line has);
  apart = λ table other line another has also same. absurd (no_line date table line has);
  slots_differ = record { fit = λ line has. absurd (contained_none line has); differ = λ a b has also same slot. absurd (contained_none a has) };
}

-- the chain of free pages before any was taken
pub none_taken : (v : PagesView) → v.free ≡ 0 → HasChain v
none_taken v is = record { frees = []; chain = is }

module _ (old new : PagesView) (root : Root) (fresh_is : old.fresh ≡ 1) (free_is : old.free ≡ 0) (stands : IsTreeOf new (tree_in root) []) (trades : Trades (λ n. ⊥) (OfTree new.page (tree_in root)) old new) (no_heap : root.heap ≡ 0) where
  abbrev frees : List ℕ
  frees = stands.chain.frees

  no_slots : (page : ℕ) → HasSlots (root.heap ∷ []) [] page → ⊥
  no_slots page (inl has) = contained_none (page * 65536 + has.0) has.2
  no_slots page (inr kept) = elim (contained root.heap [] page kept.0) [ inl is ↦ kept.1 (sym is ∙ no_heap) | inr none ↦ contained_none page none ]

  a_use : (page : ℕ) → OfTree new.page (tree_in root) page ⊎ IsFree new page → (what : Use) × IsFor new.page (ends_of new root) (root.heap ∷ []) [] frees what page
  a_use page (inl of) = (tree, of)
  a_use page (inr is_free) = (free, contains_of frees page (in_chain new page stands.chain is_free))

  apart_uses : (page : ℕ) → OfTree new.page (tree_in root) page → Contains frees page → ⊥
  apart_uses page of has = tree_not_free page (new.page page) (tree_form new (tree_in root) [] page stands of) (on_chain new new.free page frees stands.chain.chain (among_of frees page has))

  one_use : (page : ℕ) (one other : Use) → IsFor new.page (ends_of new root) (root.heap ∷ []) [] frees one page → IsFor new.page (ends_of new root) (root.heap ∷ []) [] frees other page → one ≡ other
  one_use page slots other is also = absurd (no_slots page is)
  one_use page (chain place) other is also = absurd (contained_none place is.0)
  one_use page tree slots is also = absurd (no_slots page also)
  one_use page free slots is also = absurd (no_slots page also)
  one_use page tree (chain place) is also = absurd (contained_none place also.0)
  one_use page free (chain place) is also = absurd (contained_none place also.0)
  one_use page tree tree is also = refl
  one_use page free free is also = refl
  one_use page tree free is also = absurd (apart_uses page is also)
  one_use page free tree is also = absurd (apart_uses page also is)

  in_it : (page : ℕ) (what : Use) → IsFor new.page (ends_of new root) (root.heap ∷ []) [] frees what page → (1 ≤ page) × (page < new.fresh)
  in_it page tree of = let taken = stands.lies page of in let start = taken.start in (omega (arith, start), taken.end)
  in_it page slots has = absurd (no_slots page has)
  in_it page (chain place) has = absurd (contained_none place has.0)
  in_it page free has = in_use_of new new.free frees page stands.chain.chain (among_of frees page has)

  pub used_once : AreUsedOnce new.page (ends_of new root) (root.heap ∷ []) []
  used_once = record {
    frees = frees;
    free_chain = linked_of new new.free frees stands.chain.chain;
    used = λ page from below. a_use page (trades.all page (inr (omega (arith, from, fresh_is), below)));
    once = one_use;
    in_range = in_it;
    in_form = λ page has. absurd (no_slots page has);
    no_more = λ page slot has used. absurd (no_slots page has);
  }

-- The root of a tree without pairs, with no page for new records, is the store of the empty gazetteer.
pub begun : (old new : PagesView) (root : Root) → old.fresh ≡ 1 → old.free ≡ 0 → IsTreeOf new (tree_in root) [] → Trades (λ n. ⊥) (OfTree new.page (tree_in root)) old new
    → root.heap ≡ 0 → root.counts ≡ counts_of empty → IsStore (dated empty root.day) new root
begun old new root fresh_is free_is stands trades no_heap counts = record {
  is_gazetteer = dated_is root.day;
  date = refl;
  counts = counts;
  pairs = [];
  tree = stands.top;
  placeless = λ k d below. absurd (omega (arith, below));
  slots = λ code. 0;
  indexed = none_indexed root.day (record_at new.page);
  used_once = used_once old new root fresh_is free_is stands trades no_heap;
}

-- a take from pages of which none was taken meets no damage
pub undamaged : (T : Type 0) (v : PagesView) (fault : PageFault) (out : AskFault) → v.fresh ≡ 1 → v.free ≡ 0 → IsDamaged {T = T} (damage v) (Err fault) → out ≡ fault_of fault → IsUndamaged out
unfolding damage
undamaged T v page.Failed out fresh none is same = subst IsUndamaged (sym same) tt
undamaged T v page.Memory out fresh none is same = subst IsUndamaged (sym same) tt
undamaged T v (page.Damaged number) out fresh none is same = absurd (never (sym (rw (none, fresh) refl) ∙ is))
  where
    never : None ≡ Some number → ⊥
    never is = cc
