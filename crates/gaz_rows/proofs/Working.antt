-- Calls on the tree leave what is laid.
use Rattle.std.proofs.Common.{◌≡◌, ◌≤◌, ◌+◌, ◌*◌, ◌^◌, ℕ, suc, List, [], ◌∷◌, length, refl, sym, ◌∙◌, ap, subst, arith, inl, inr}
use Rattle.std.specs.Prelude.{Bool, true, false, ◌==◌, not, if◌then◌else◌, bytes_eq, Result, Ok, Err, OnOk}
use Rattle.std.specs.List.{list_any}
use Rattle.gaz_page.specs.declared.pages.PageFault.{PageFault}
use Rattle.gaz_page.specs.declared.pages.PageFault.TheVariants.{Failed, Damaged, Memory}
use Rattle.gaz_page.specs.declared.tree_root.Root.{Root}
use Rattle.gaz_page.specs.Pages.{PagesView, NotDamaged}
use Rattle.gaz_leaf.specs.Node.{Pair, key_of}
use Rattle.gaz_tree.specs.declared.tree.Tree.{Tree}
use Rattle.gaz_tree.specs.Pairs.{put, without}
use Rattle.gaz_tree.specs.Put.{Trades, Changes}
use Rattle.gaz_tree.specs.Remove.{Returns}
use Rattle.gaz_tree.specs.Stands.{Stands, OfTree, PutDamage, IsWith, IsWithout}
use Rattle.gaz_tree.proofs.Lists.{length-put_most}
use Rattle.gaz_rows.specs.Laid.{IsLaid, LaidBy, HasRoom, tree_in}
use Rattle.gaz_rows.specs.Work.{TurnsPairs, IsSoundWith, put_zeros, without_all, missing_in, ChangesFew}
use Rattle.gaz_rows.proofs.LaidKeys.{after_key_put, after_key_removed}

-- the tree of a root, by its fields
pub tree_is : (tree : Tree) (root : Root) → tree.top ≡ root.top → tree.height ≡ root.height → tree_in root ≡ tree
tree_is tree root top height = sym (ap (λ n. record { top = n; height = tree.height }) top ∙ ap (λ n. record { top = root.top; height = n }) height)

module _ (old : PagesView) (root : Root) (tree : Tree) (same : tree_in root ≡ tree) (pairs : List Pair) (kept places : List ℕ) (laid : IsLaid old root pairs kept places) where
  -- what is laid has its tree
  pub has_tree : Stands old tree pairs
  has_tree = subst (λ t. Stands old t pairs) same laid.tree

  -- A pair is put.
  pub turned_by_put : (new : PagesView) (now : Root) (p : Pair) → IsWith old new tree (tree_in now) p pairs → LaidBy 7 old new now (put p pairs) kept places
  turned_by_put new now p is =
      after_key_put old new root now pairs (put p pairs) kept places laid is.stands
      (subst (λ t. Trades (OfTree old.page t) (OfTree new.page (tree_in now)) old new) (sym same) is.trades)
      (subst (λ t. Changes (OfTree old.page t) old new) (sym same) is.others)
      is.takes

  -- A key is taken out.
  pub turned_by_remove : (new : PagesView) (now : Root) (key : ℕ) (found : Bool) → IsWithout old new tree (tree_in now) key pairs found → LaidBy 0 old new now (without key pairs) kept places
  turned_by_remove new now key found is =
      after_key_removed old new root now pairs (without key pairs) kept places laid is.stands is.fresh
      (subst (λ t. Returns (OfTree old.page t) (OfTree new.page (tree_in now)) old new) (sym same) is.returns)
      (subst (λ t. Changes (OfTree old.page t) old new) (sym same) is.others)
      (λ n of. subst (λ t. OfTree old.page t n) (sym same) (is.within n of))

  -- There are few pairs and room for a put, so it meets no damage.
  pub sound_put : (fault : PageFault) → PutDamage {T = Unit} old tree pairs (Err fault) → HasRoom 7 old → length pairs + 1 ≤ 2 ^ 30 → NotDamaged fault
  sound_put Failed damage room few = tt
  sound_put Memory damage room few = tt
  sound_put (Damaged n) (inl tall) room few = absurd (by tall.2)
    where
      by : 2 ^ 30 ≤ length pairs → ⊥
      by many = omega (arith, many, few)
  sound_put (Damaged n) (inr spent) room few = absurd (by (spent.few laid.tree.chain) (room laid.tree.chain))
    where
      by : {n : ℕ} → n ≤ 6 → 7 ≤ n → ⊥
      by low high = omega (arith, low, high)

-- One turn after another.
pub turns_on : (a b : ℕ) (f h : List Pair → List Pair) (old mid new : PagesView) (root between now : Root) → TurnsPairs a f old root mid between → TurnsPairs b h mid between new now
    → TurnsPairs (a + b) (λ pairs. h (f pairs)) old root new now
turns_on a b f h old mid new root between now first second pairs kept places laid =
    let one = first pairs kept places laid in
    let two = second (f pairs) kept places one.laid in
    record {
      laid = two.laid;
      same = λ place there. two.same place there ∙ one.same place there;
      room = λ n room. two.room n (one.room (n + b) (subst (λ k. HasRoom k old) (sum n) room));
    }
  where
    sum : (n : ℕ) → n + (a + b) ≡ n + b + a
    sum n = omega arith

-- No turn at all.
pub turns_none : (v : PagesView) (root : Root) → TurnsPairs 0 (λ pairs. pairs) v root v root
turns_none v root pairs kept places laid = record { laid = laid; same = λ place there. refl; room = λ n room. subst (λ k. HasRoom k v) (sum n) room }
  where
    sum : (n : ℕ) → n + 0 ≡ n
    sum n = omega arith

-- Less room is room.
pub less_room : (most least : ℕ) (v : PagesView) → least ≤ most → HasRoom most v → HasRoom least v
less_room most least v less room chain = let enough = room chain in omega (arith, enough, less)

-- what follows where an answer is Ok
pub map_ok : {T F : Type 0} {P Q : Type 0} (result : Result T F) → (P → Q) → OnOk result P → OnOk result Q
map_ok (Ok value) f p = f p
map_ok (Err fault) f p = tt

-- Without a key there are no more pairs.
pub without_fewer : (key : ℕ) (pairs : List Pair) → length (without key pairs) ≤ length pairs
without_fewer key [] = omega arith
without_fewer key (p ∷ ps) = by (p.key == key) (without_fewer key ps)
  where
    by : (b : Bool) → length (without key ps) ≤ length ps → length (if b then ps else p ∷ without key ps) ≤ suc (length ps)
    by true less = omega arith
    by false less = omega (arith, less)

-- A key of the front is one of the others, or isn't.
pub missing_met : (others keys : List (List ℕ)) (key : List ℕ) (rest : List (List ℕ)) → keys ≡ key ∷ rest → list_any (bytes_eq key) others ≡ true → missing_in others keys ≡ missing_in others rest
missing_met others keys key rest is met = ap (missing_in others) is ∙ ap (λ b. if not b then key ∷ missing_in others rest else missing_in others rest) met

pub missing_new : (others keys : List (List ℕ)) (key : List ℕ) (rest : List (List ℕ)) → keys ≡ key ∷ rest → list_any (bytes_eq key) others ≡ false → missing_in others keys ≡ key ∷ missing_in others rest
missing_new others keys key rest is new = ap (missing_in others) is ∙ ap (λ b. if not b then key ∷ missing_in others rest else missing_in others rest) new

-- What takes fewer pages takes no more than more.
pub turns_within : (most least : ℕ) (f : List Pair → List Pair) (old new : PagesView) (root now : Root) → least ≤ most → TurnsPairs least f old root new now → TurnsPairs most f old root new now
turns_within most least f old new root now less turn pairs kept places laid =
    let one = turn pairs kept places laid in
    record { laid = one.laid; same = one.same; room = λ n room. one.room n (less_room (n + most) (n + least) old (omega (arith, less)) room) }

pub sound_within : {T : Type 0} (result : Result T PageFault) (most least more fewer : ℕ) (v : PagesView) (root : Root) → least ≤ most → fewer ≤ more → IsSoundWith least fewer v root result
    → IsSoundWith most more v root result
sound_within result most least more fewer v root less few sound pairs kept places laid room within =
    sound pairs kept places laid (less_room most least v less room) (omega (arith, few, within))

-- what follows from two facts of an answer that is Ok
pub both_ok : {T F : Type 0} {P Q R : Type 0} (result : Result T F) → (P → Q → R) → OnOk result P → OnOk result Q → OnOk result R
both_ok (Ok value) f p q = f p q
both_ok (Err fault) f p q = tt

pub all_ok : {T F : Type 0} {P Q R S : Type 0} (result : Result T F) → (P → Q → R → S) → OnOk result P → OnOk result Q → OnOk result R → OnOk result S
all_ok (Ok value) f p q r = f p q r
all_ok (Err fault) f p q r = tt

module _ (old mid new : PagesView) (root between now : Root) (others keys : List (List ℕ)) (key : List ℕ) (rest : List (List ℕ)) (is : keys ≡ key ∷ rest) where
  long : length keys ≡ suc (length rest)
  long = ap length is

  -- The first key is put, then the others; or it is passed over.
  pub zeros_on : list_any (bytes_eq key) others ≡ false → TurnsPairs 7 (put (record { key = key_of key; value = 0 })) old root mid between
      → TurnsPairs (7 * length rest) (put_zeros (missing_in others rest)) mid between new now → TurnsPairs (7 * length keys) (put_zeros (missing_in others keys)) old root new now
  zeros_on new_ first more =
      subst (λ ks. TurnsPairs (7 * length keys) (put_zeros ks) old root new now) (sym (missing_new others keys key rest is new_))
      (turns_within (7 * length keys) (7 + 7 * length rest) (put_zeros (key ∷ missing_in others rest)) old new root now (omega (arith, long))
      (turns_on 7 (7 * length rest) (put (record { key = key_of key; value = 0 })) (put_zeros (missing_in others rest)) old mid new root between now first more))

  pub gone_on : list_any (bytes_eq key) others ≡ false → TurnsPairs 0 (without (key_of key)) old root mid between
      → TurnsPairs 0 (without_all (missing_in others rest)) mid between new now → TurnsPairs 0 (without_all (missing_in others keys)) old root new now
  gone_on new_ first more =
      subst (λ ks. TurnsPairs 0 (without_all ks) old root new now) (sym (missing_new others keys key rest is new_))
      (turns_on 0 0 (without (key_of key)) (without_all (missing_in others rest)) old mid new root between now first more)

  -- What is sound behind the first is sound.
  pub zeros_sound : {T : Type 0} (result : Result T PageFault) → TurnsPairs 7 (put (record { key = key_of key; value = 0 })) old root mid between
      → IsSoundWith (7 * length rest) (length rest) mid between result → IsSoundWith (7 * length keys) (length keys) old root result
  zeros_sound result first more pairs kept places laid room few =
      let one = first pairs kept places laid in
      let most = length-put_most (record { key = key_of key; value = 0 }) pairs in
      more (put (record { key = key_of key; value = 0 }) pairs) kept places one.laid (one.room (7 * length rest) (less_room (7 * length keys) (7 * length rest + 7) old (omega (arith, long)) room))
      (omega (arith, most, few, long))

  pub gone_sound : {T : Type 0} (result : Result T PageFault) → TurnsPairs 0 (without (key_of key)) old root mid between → IsSoundWith 0 0 mid between result → IsSoundWith 0 0 old root result
  gone_sound result first more pairs kept places laid room few =
      let one = first pairs kept places laid in
      let less = without_fewer (key_of key) pairs in
      more (without (key_of key) pairs) kept places one.laid (one.room 0 room) (omega (arith, less, few))

module _ (old new : PagesView) (root now : Root) (others keys : List (List ℕ)) (key : List ℕ) (rest : List (List ℕ)) (is : keys ≡ key ∷ rest) where
  longer : length keys ≡ suc (length rest)
  longer = ap length is

  -- The first key is passed over.
  pub zeros_past : list_any (bytes_eq key) others ≡ true → TurnsPairs (7 * length rest) (put_zeros (missing_in others rest)) old root new now → TurnsPairs (7 * length keys) (put_zeros (missing_in others keys)) old root new now
  zeros_past met more =
      subst (λ ks. TurnsPairs (7 * length keys) (put_zeros ks) old root new now) (sym (missing_met others keys key rest is met))
      (turns_within (7 * length keys) (7 * length rest) (put_zeros (missing_in others rest)) old new root now (omega (arith, longer)) more)

  pub gone_past : list_any (bytes_eq key) others ≡ true → TurnsPairs 0 (without_all (missing_in others rest)) old root new now → TurnsPairs 0 (without_all (missing_in others keys)) old root new now
  gone_past met more = subst (λ ks. TurnsPairs 0 (without_all ks) old root new now) (sym (missing_met others keys key rest is met)) more

  pub past_sound : {T : Type 0} (result : Result T PageFault) → IsSoundWith (7 * length rest) (length rest) old root result → IsSoundWith (7 * length keys) (length keys) old root result
  past_sound result more = sound_within result (7 * length keys) (7 * length rest) (length keys) (length rest) old root (omega (arith, longer)) (omega (arith, longer)) more

  pub first_sound : (T U : Type 0) (fault : PageFault) → IsSoundWith {T = T} 7 1 old root (Err fault) → IsSoundWith {T = U} (7 * length keys) (length keys) old root (Err fault)
  first_sound T U fault sound pairs kept places laid room few =
      sound pairs kept places laid (less_room (7 * length keys) 7 old (omega (arith, longer)) room) (omega (arith, longer, few))

-- ---- how many pages are changed for the keys that the others lack

pub few_past : (old new : PagesView) (root now : Root) (others keys : List (List ℕ)) (key : List ℕ) (rest : List (List ℕ)) → keys ≡ key ∷ rest → list_any (bytes_eq key) others ≡ true
    → ChangesFew (20 * length (missing_in others rest)) old new root now → ChangesFew (20 * length (missing_in others keys)) old new root now
few_past old new root now others keys key rest is met few =
    subst (λ ks. ChangesFew (20 * length ks) old new root now) (sym (missing_met others keys key rest is met)) few

pub few_on : (old mid new : PagesView) (root between now : Root) (others keys : List (List ℕ)) (key : List ℕ) (rest : List (List ℕ)) → keys ≡ key ∷ rest → list_any (bytes_eq key) others ≡ false
    → ChangesFew 20 old mid root between → ChangesFew (20 * length (missing_in others rest)) mid new between now → ChangesFew (20 * length (missing_in others keys)) old new root now
few_on old mid new root between now others keys key rest is new_one first later =
    let one = first.changed in
    let more = later.changed in
    subst (λ ks. ChangesFew (20 * length ks) old new root now) (sym (missing_new others keys key rest is new_one)) (record { changed = omega (arith, one, more); low = later.low })

pub few_first : (old mid : PagesView) (root between : Root) (others keys : List (List ℕ)) (key : List ℕ) (rest : List (List ℕ)) → keys ≡ key ∷ rest → list_any (bytes_eq key) others ≡ false
    → ChangesFew 20 old mid root between → ChangesFew (20 * length (missing_in others keys)) old mid root between
few_first old mid root between others keys key rest is new_one first =
    let one = first.changed in
    subst (λ ks. ChangesFew (20 * length ks) old mid root between) (sym (missing_new others keys key rest is new_one)) (record { changed = omega (arith, one); low = first.low })

pub few_none : (v : PagesView) (root : Root) (others keys : List (List ℕ)) → root.height ≤ 6 → ChangesFew (20 * length (missing_in others keys)) v v root root
few_none v root others keys low = record { changed = omega arith; low = low }
