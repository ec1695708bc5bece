-- Visits of blocks: what is found is live, and where nothing grew all that is live was found.
use Rattle.std.proofs.Common.{◌≡◌, ◌⊎◌, ℕ, zero, suc, ◌+◌, ◌<◌, ◌≤◌, Bool, true, false, ◌||◌, List, [], ◌∷◌, length, drop, get_or, slice_set, Option}
use Rattle.std.proofs.Common.{Some, None}
use Rattle.std.proofs.Common.{refl, sym, ap, ◌∙◌, inl, inr, arith, subst}
use Rattle.std.specs.Prelude.{slice_get}
use Rattle.std.proofs.lemmas.Bool.{cases_eq}
use Rattle.std.proofs.lemmas.List.{get_or-set_other, get_or-set_same, length-set, set-get_or}
use Rattle.std.proofs.lemmas.List.Sums.{sum_by-set}
use Rattle.rv64_instr.specs.declared.place.Place.{Place}
use Rattle.mir_func.specs.declared.block.Block.{Block}
use Rattle.mir_func.specs.declared.debug_substitution.OperandPair.{OperandPair}
use Rattle.mir_func.specs.declared.item.Item.{Item}
use Rattle.mir_func.specs.Graph.{program_of, block_start, from_block, front, fetch_in}
use Rattle.mir_func.specs.Sound.{AllItems, SlotsIn, AreApart, ids_of}
use Rattle.mir_func.specs.Successors.{pos_in}
use Rattle.sem_mir.specs.Live.{Live}
use Rattle.dataflow.specs.Fixpoint.{Visited}
use Rattle.pass_liveness.specs.Index.{index_in}
use Rattle.pass_liveness.specs.Sets.{has, has_bit, gap}
use Rattle.pass_liveness.specs.Walk.{live_from}
use Rattle.pass_liveness.specs.Liveness.{has_at_start, set_at}
use Rattle.pass_liveness.specs.Solving.{AreFound, IsClosed, IsState, gap_of}
use Rattle.pass_liveness.proofs.Indices.{index_is}
use Rattle.pass_liveness.proofs.Places.{has_united, has_nothing}
use Rattle.pass_liveness.proofs.Paths.{LiveFrom, WalkedIn, next_of, walk_is_live, live_is_walked}
use Rattle.pass_liveness.proofs.Facts.{walk_facts}
use Rattle.pass_liveness.proofs.Blocks.{block_found, from_block-at, next_of-drop, id_is}

or_cases : (a b : Bool) → (a || b) ≡ true → (a ≡ true) ⊎ (b ≡ true)
or_cases true b e = inl refl
or_cases false b e = inr e

or_true : (a : Bool) → (a || true) ≡ true
or_true true = refl
or_true false = refl

-- ---- what the walk up a block finds is live

pub walked_is_live : (slots ids : List ℕ) (blocks : List Block) (starts : List (List ℕ)) (b : ℕ) (block : Block) → AreApart (ids_of blocks) →
    slice_get blocks b ≡ Some block → AreFound slots ids blocks starts → (sp : Bool) (resolve : OperandPair → Option OperandPair) (k : ℕ) (x : Place) →
    live_from (has_at_start slots ids starts) (drop k block.items) (slice_get (ids_of blocks) (suc b)) x ≡ true →
    Live (program_of sp blocks resolve) x (pos_in block.id k)
walked_is_live slots ids blocks starts b block apart at found sp resolve k x h =
    let begins = from_block-at blocks b block apart at in
    let next : slice_get (ids_of blocks) (suc b) ≡ next_of (drop (suc b) blocks) = sym (next_of-drop blocks (suc b)) in
    let facts = (walk_facts x (has_at_start slots ids starts) (drop k block.items) (slice_get (ids_of blocks) (suc b))).0 h in
    walk_is_live sp blocks resolve x (λ n. has_at_start slots ids starts n x ≡ true) (λ n e. found sp resolve n x e) block.id k (drop k block.items)
    block.source_end
    (drop (suc b) blocks)
    (λ j. ap (λ (bs : List Block). fetch_in bs (k + j)) begins ∙ ap (λ is. front is block.source_end (drop (suc b) blocks)) (split block.items k j))
    (subst (λ (o : Option ℕ). LiveFrom x (λ n. has_at_start slots ids starts n x ≡ true) (drop k block.items) o) next facts) where
      split : (xs : List Item) (k j : ℕ) → drop (k + j) xs ≡ drop j (drop k xs)
      split xs zero j = let e : 0 + j ≡ j = omega arith in ap (λ (n : ℕ). drop n xs) e
      split [] (suc k) j = none (suc k + j) ∙ sym (none j) where
        none : (n : ℕ) → drop {A = Item} n [] ≡ []
        none zero = refl
        none (suc n) = refl
      split (x ∷ xs) (suc k) j = let e : suc k + j ≡ suc (k + j) = omega arith in ap (λ (n : ℕ). drop n (x ∷ xs)) e ∙ split xs k j

-- ---- one visit

module _ (slots ids : List ℕ) (blocks : List Block) (old : List (List ℕ)) (b : ℕ) (block : Block) (was live now : List ℕ) (grown : Bool)
    (long : length old ≡ length blocks) (inside : b < length blocks) (at : slice_get blocks b ≡ Some block) (is : get_or old b [] ≡ was)
    (walked : (x : Place) → has slots live x ≡ live_from (has_at_start slots ids old) block.items (slice_get (ids_of blocks) (b + 1)) x)
    (all : (i : ℕ) → has_bit now i ≡ (has_bit was i || has_bit live i)) (fuller : grown ≡ true → gap now < gap was) (same : grown ≡ false → now ≡ was) where
  new : List (List ℕ)
  new = slice_set old b now

  here : b < length old
  here = omega (arith, long, inside)

  one : b + 1 ≡ suc b
  one = omega arith

  next_is : slice_get (ids_of blocks) (b + 1) ≡ slice_get (ids_of blocks) (suc b)
  next_is = ap (slice_get (ids_of blocks)) one

  both : (x : Place) → has slots now x ≡ (has slots was x || has slots live x)
  both x = has_united slots was live now all x

  found_here : AreApart (ids_of blocks) → AreFound slots ids blocks old → (sp : Bool) (resolve : OperandPair → Option OperandPair) (x : Place) →
      ids ≡ ids_of blocks → (n : ℕ) → index_in ids n ≡ Some b → has slots now x ≡ true → Live (program_of sp blocks resolve) x (block_start n)
  found_here apart found sp resolve x names n found_at e = elim (or_cases (has slots was x) (has slots live x) (sym (both x) ∙ e)) [
    | inl w ↦ found sp resolve n x
        (ap (λ (o : Option ℕ). has slots (set_at old o) x) found_at ∙ (ap (λ (s : List ℕ). has slots s x) is ∙ w))
    | inr l ↦
        let number : get_or (ids_of blocks) b 0 ≡ n = ap (λ (ns : List ℕ). get_or ns b 0) (sym names) ∙ (index_is ids n b found_at).1 in
        let id : block.id ≡ n = sym (id_is blocks b block at) ∙ number in
        let walk = sym (ap (λ (o : Option ℕ). live_from (has_at_start slots ids old) block.items o x) next_is) ∙ (sym (walked x) ∙ l) in
        subst (λ (m : ℕ). Live (program_of sp blocks resolve) x (block_start m)) id
        (walked_is_live slots ids blocks old b block apart at found sp resolve 0 x walk)
  ]

  found_new : AreApart (ids_of blocks) → ids ≡ ids_of blocks → AreFound slots ids blocks old → AreFound slots ids blocks (slice_set old b now)
  found_new apart names found sp resolve n x = by_index (index_in ids n) refl where
    by_index : (o : Option ℕ) → index_in ids n ≡ o → has slots (set_at (slice_set old b now) o) x ≡ true → Live (program_of sp blocks resolve) x (block_start n)
    by_index None i e = let f : false ≡ true = sym (has_nothing slots x) ∙ e in absurd cc
    by_index (Some j) i e = elim (cases_eq j b) [
      | inl s ↦ found_here apart found sp resolve x names n (i ∙ ap (λ (k : ℕ). Some k) s)
          (sym (ap (λ (k : ℕ). has slots (get_or (slice_set old b now) k []) x) s ∙ ap (λ (w : List ℕ). has slots w x) (get_or-set_same old b now [] here)) ∙ e)
      | inr ne ↦ found sp resolve n x (ap (λ (o : Option ℕ). has slots (set_at old o) x) i
          ∙ (sym (ap (λ (w : List ℕ). has slots w x) (get_or-set_other old b j now [] ne)) ∙ e))
    ]

  same_new : grown ≡ false → slice_set old b now ≡ old
  same_new e = ap (slice_set old b) (same e ∙ sym is) ∙ set-get_or old b []

  closed_new : grown ≡ false → IsClosed slots ids blocks (slice_set old b now) b
  closed_new e = subst (λ (s : List (List ℕ)). IsClosed slots ids blocks s b) (sym (same_new e)) closed_old where
    closed_old : IsClosed slots ids blocks old b
    closed_old c x at_c walk =
        let one_block : c ≡ block = cc in
        let there : has slots live x ≡ true = walked x ∙ (ap (λ (d : Block). live_from (has_at_start slots ids old) d.items
        (slice_get (ids_of blocks) (b + 1)) x)
        (sym one_block) ∙ walk) in
        ap (λ (w : List ℕ). has slots w x) (is ∙ sym (same e)) ∙ (both x ∙ (ap (λ (t : Bool). has slots was x || t) there ∙ or_true (has slots was x)))

  put : gap_of (slice_set old b now) + gap (get_or old b []) ≡ gap_of old + gap now
  put = sum_by-set gap old b now [] here

  by_grown : (z : Bool) → (z ≡ true → gap now < gap was) → (z ≡ false → now ≡ was) → gap_of (slice_set old b now) ≤ gap_of old
  by_grown true more equal = omega (arith, put, more refl, ap gap is)
  by_grown false more equal = omega (arith, put, ap gap (equal refl), ap gap is)

  pub visited : AllItems (λ i. SlotsIn slots i.kind) blocks → (AreApart (ids_of blocks) → ids ≡ ids_of blocks → AreFound slots ids blocks old) →
      Visited (IsState slots ids blocks) (IsClosed slots ids blocks) gap_of old (slice_set old b now) b grown
  visited known found = record {
    valid = record { known = known; long = length-set old b now ∙ long; found = λ apart names. found_new apart names (found apart names) };
    level = by_grown grown fuller same;
    lower = λ e. omega (arith, put, fuller e, ap gap is);
    closed = closed_new;
    kept = λ e c closed. subst (λ (s : List (List ℕ)). IsClosed slots ids blocks s c) (sym (same_new e)) closed;
  }

-- ---- what was found is all that is live

get_inside : (xs : List Block) (i : ℕ) (c : Block) → slice_get xs i ≡ Some c → i < length xs
get_inside [] i c e = absurd cc
get_inside (y ∷ ys) zero c e = omega arith
get_inside (y ∷ ys) (suc i) c e = let l : i < length ys = get_inside ys i c e in omega arith

pub settled_has_live : (slots ids : List ℕ) (blocks : List Block) (starts : List (List ℕ)) → ids ≡ ids_of blocks →
    ((b : ℕ) → b < length blocks → IsClosed slots ids blocks starts b) → (sp : Bool) (resolve : OperandPair → Option OperandPair) (x : Place) (n : ℕ) →
    WalkedIn sp blocks resolve x (λ m. has_at_start slots ids starts m x ≡ true) (from_block blocks n) 0 → has_at_start slots ids starts n x ≡ true
settled_has_live slots ids blocks starts names closed sp resolve x n = by_blocks (from_block blocks n) refl where
  by_blocks : (fbs : List Block) → from_block blocks n ≡ fbs → WalkedIn sp blocks resolve x (λ m. has_at_start slots ids starts m x ≡ true) fbs 0 →
      has_at_start slots ids starts n x ≡ true
  by_blocks [] e w = absurd w
  by_blocks (c ∷ cs) e w =
      let f = block_found blocks n c cs e in
      let i = f.0 in
      let is = f.1 in
      let one : i + 1 ≡ suc i = omega arith in
      let next : next_of cs ≡ slice_get (ids_of blocks) (i + 1) = ap next_of is.rest ∙
      (next_of-drop blocks (suc i) ∙ ap (slice_get (ids_of blocks)) (sym one)) in
      let walk = (walk_facts x (has_at_start slots ids starts) c.items (slice_get (ids_of blocks) (i + 1))).1
      (subst (λ (o : Option ℕ). LiveFrom x (λ m. has_at_start slots ids starts m x ≡ true) c.items o) next w) in
      ap (λ (o : Option ℕ). has slots (set_at starts o) x) (ap (λ (ns : List ℕ). index_in ns n) names ∙ is.index)
      ∙ closed i (get_inside blocks i c is.at) c x is.at walk

-- all that is live is found along a block's walk
pub live_is_found : (slots ids : List ℕ) (blocks : List Block) (starts : List (List ℕ)) → ids ≡ ids_of blocks →
    ((b : ℕ) → b < length blocks → IsClosed slots ids blocks starts b) → (sp : Bool) (resolve : OperandPair → Option OperandPair) (x : Place) (n : ℕ) →
    Live (program_of sp blocks resolve) x (block_start n) → has_at_start slots ids starts n x ≡ true
live_is_found slots ids blocks starts names closed sp resolve x n l =
    settled_has_live slots ids blocks starts names closed sp resolve x n
    (live_is_walked sp blocks resolve x (λ m. has_at_start slots ids starts m x ≡ true) (settled_has_live slots ids blocks starts names closed sp resolve x) l)
