-- What the sets of a function answer, in the forms in which the queries compute it.
use Rattle.std.proofs.Common.{◌≡◌, ◌↔◌, ◌⊎◌, ℕ, zero, suc, ◌+◌, ◌<◌, Bool, true, false, ◌||◌, List, [], ◌∷◌, length, drop, get_or, Option, Some, None}
use Rattle.std.proofs.Common.{refl, sym, ap, ◌∙◌, inl, inr, arith, subst}
use Rattle.std.specs.Prelude.{slice_get, Contains}
use Rattle.rv64_instr.specs.declared.place.Place.{Place}
use Rattle.mir_func.specs.declared.block.Block.{Block}
use Rattle.mir_func.specs.declared.debug_substitution.OperandPair.{OperandPair}
use Rattle.mir_func.specs.declared.item.Item.{Item}
use Rattle.mir_func.specs.Exits.{exit_of}
use Rattle.mir_func.specs.Function.{Function}
use Rattle.mir_func.specs.Graph.{program_of, block_start}
use Rattle.mir_func.specs.Sound.{AllItems, SlotsIn, AreApart, ids_of}
use Rattle.mir_func.specs.Successors.{pos_in, GoesTo}
use Rattle.sem_mir.specs.Live.{Live}
use Rattle.pass_liveness.specs.Index.{index_in}
use Rattle.pass_liveness.specs.Sets.{has}
use Rattle.pass_liveness.specs.Walk.{live_from, live_across}
use Rattle.pass_liveness.specs.Liveness.{LiveSets, AreLiveSets, DecidesIn, LivePast, LiveOut, has_at_start, set_at, items_at}
use Rattle.pass_liveness.specs.Solving.{AreFound, IsState, IsClosed}
use Rattle.pass_liveness.proofs.Places.{has_nothing}
use Rattle.pass_liveness.proofs.Blocks.{get_or_any, id_is, index_at, items_at_is}
use Rattle.pass_liveness.proofs.Answers.{live_at_position, live_past_position, live_out_by}
use Rattle.pass_liveness.proofs.Visits.{live_is_found}

-- the block at an index
at_of : (blocks : List Block) (b : ℕ) → b < length blocks → (block : Block) × (slice_get blocks b ≡ Some block)
at_of [] b l = absurd (omega arith)
at_of (c ∷ cs) zero l = (c, refl)
at_of (c ∷ cs) (suc b) l = at_of cs b (omega arith)

module _ (f : Function) (l : LiveSets) (sets : AreLiveSets f l) (apart : AreApart (ids_of f.blocks)) (b : ℕ) (inside : b < length f.blocks) (x : Place) where
  block : Block
  block = (at_of f.blocks b inside).0

  at : slice_get f.blocks b ≡ Some block
  unfolding block at_of
  at = (at_of f.blocks b inside).1

  number : get_or (ids_of f.blocks) b 0 ≡ block.id
  number = id_is f.blocks b block at

  one : b + 1 ≡ suc b
  one = omega arith

  -- at the start of a block
  pub at_start_answer : (set d : List ℕ) → set ≡ get_or l.starts b d → DecidesIn f (λ g. Live g x (block_start (get_or (ids_of f.blocks) b 0)))
      (has l.slots set x)
  at_start_answer set d is sp resolve =
      let n = get_or (ids_of f.blocks) b 0 in
      let ids : slice_get (ids_of f.blocks) b ≡ Some n = ids_at (ids_of f.blocks) b (ids_long f.blocks b inside) in
      let index : index_in l.blocks n ≡ Some b = ap (λ (ns : List ℕ). index_in ns n) sets.blocks ∙ index_at (ids_of f.blocks) b n apart ids in
      let long : b < length l.starts = omega (arith, sets.long, inside) in
      let same : has_at_start l.slots l.blocks l.starts n x ≡ has l.slots set x =
      ap (λ (o : Option ℕ). has l.slots (set_at l.starts o) x) index ∙ ap (λ (w : List ℕ). has l.slots w x) (get_or_any l.starts b [] d long ∙ sym is) in
      subst (λ (t : Bool). (t ≡ true) ↔ Live (program_of sp f.blocks resolve) x (block_start n)) same (sets.starts n x sp resolve) where
        ids_at : (ns : List ℕ) (i : ℕ) → i < length ns → slice_get ns i ≡ Some (get_or ns i 0)
        ids_at [] i l = absurd (omega arith)
        ids_at (m ∷ ms) zero l = refl
        ids_at (m ∷ ms) (suc i) l = ids_at ms i (omega arith)

        ids_long : (bs : List Block) (i : ℕ) → i < length bs → i < length (ids_of bs)
        ids_long [] i l = absurd (omega arith)
        ids_long (c ∷ cs) zero l = omega arith
        ids_long (c ∷ cs) (suc i) l = let h : i < length (ids_of cs) = ids_long cs i (omega arith) in omega arith

  -- at a position
  pub at_answer : (k : ℕ) (t : Bool) → t ≡ live_from (has_at_start l.slots l.blocks l.starts) (drop k (items_at f.blocks b))
      (slice_get (ids_of f.blocks) (b + 1)) x →
      DecidesIn f (λ g. Live g x (pos_in (get_or (ids_of f.blocks) b 0) k)) t
  at_answer k t is sp resolve =
      let same : live_from (has_at_start l.slots l.blocks l.starts) (drop k block.items) (slice_get (ids_of f.blocks) (suc b)) x ≡ t =
      sym (is ∙ (ap (λ (items : List Item). live_from (has_at_start l.slots l.blocks l.starts) (drop k items) (slice_get (ids_of f.blocks) (b + 1)) x)
      (items_at_is f.blocks b block at)
      ∙ ap (λ (n : ℕ). live_from (has_at_start l.slots l.blocks l.starts) (drop k block.items) (slice_get (ids_of f.blocks) n) x) one)) in
      subst (λ (n : ℕ). (t ≡ true) ↔ Live (program_of sp f.blocks resolve) x (pos_in n k)) (sym number)
      (subst (λ (u : Bool). (u ≡ true) ↔ Live (program_of sp f.blocks resolve) x (pos_in block.id k)) same
      (live_at_position f l sets apart b block at x k sp resolve))

  item_of : (items : List Item) (k : ℕ) → k < length items → (i : Item) × (slice_get items k ≡ Some i) × (drop k items ≡ i ∷ drop (suc k) items)
  item_of [] k l = absurd (omega arith)
  item_of (i ∷ is) zero l = (i, refl, refl)
  item_of (i ∷ is) (suc k) l = item_of is k (omega arith)

  -- past the item at a position
  pub past_answer : (k : ℕ) (t : Bool) → k < length (items_at f.blocks b) →
      ((i : Item) → slice_get (items_at f.blocks b) k ≡ Some i → t ≡ live_across (has_at_start l.slots l.blocks l.starts) (exit_of i.kind)
      (live_from (has_at_start l.slots l.blocks l.starts) (drop (k + 1) (items_at f.blocks b)) (slice_get (ids_of f.blocks) (b + 1)) x) x) →
      DecidesIn f (λ g. LivePast g x (pos_in (get_or (ids_of f.blocks) b 0) k)) t
  past_answer k t less is sp resolve =
      let items = items_at_is f.blocks b block at in
      let found = item_of (items_at f.blocks b) k less in
      let i = found.0 in
      let here : drop k block.items ≡ i ∷ drop (suc k) block.items =
      sym (ap (drop {A = Item} k) items) ∙ (found.2 ∙ ap (λ (xs : List Item). i ∷ drop (suc k) xs) items) in
      let next : k + 1 ≡ suc k = omega arith in
      let same : live_across (has_at_start l.slots l.blocks l.starts) (exit_of i.kind)
      (live_from (has_at_start l.slots l.blocks l.starts) (drop (suc k) block.items) (slice_get (ids_of f.blocks) (suc b)) x) x ≡ t =
      sym (is i found.1 ∙ (λ j. live_across (has_at_start l.slots l.blocks l.starts) (exit_of i.kind)
      (live_from (has_at_start l.slots l.blocks l.starts) (drop (next j) (items j)) (slice_get (ids_of f.blocks) (one j)) x) x)) in
      subst (λ (n : ℕ). (t ≡ true) ↔ LivePast (program_of sp f.blocks resolve) x (pos_in n k)) (sym number)
      (subst (λ (u : Bool). (u ≡ true) ↔ LivePast (program_of sp f.blocks resolve) x (pos_in block.id k)) same
      (live_past_position f l sets apart b block at x k i here sp resolve))

-- ---- past a block

module _ (f : Function) (l : LiveSets) (sets : AreLiveSets f l) (b : ℕ) (x : Place) (t : Bool) where
  S : ℕ → Bool
  S n = has_at_start l.slots l.blocks l.starts n x

  pub out_none : ((sp : Bool) (resolve : OperandPair → Option OperandPair) (n : ℕ) → Contains [] n ↔ GoesTo (program_of sp f.blocks resolve) b n) →
      t ≡ false → DecidesIn f (λ g. LiveOut g x b) t
  out_none goes e = live_out_by f l sets b x [] goes t (λ h. absurd (let c : false ≡ true = sym e ∙ h in cc), λ h. absurd (nothing h.0 h.1)) where
    nothing : (n : ℕ) → Contains [] n → ⊥
    nothing n (k, less, is) = omega arith

  only : (m n : ℕ) → Contains (m ∷ []) n → m ≡ n
  only m n (zero, less, is) = is
  only m n (suc k, less, is) = absurd (omega arith)

  first : (m n : ℕ) (ns : List ℕ) → m ≡ n → Contains (m ∷ ns) n
  first m n ns e = (zero, omega arith, e)

  either : (m k n : ℕ) → Contains (m ∷ k ∷ []) n → (m ≡ n) ⊎ (k ≡ n)
  either m k n (zero, less, is) = inl is
  either m k n (suc zero, less, is) = inr is
  either m k n (suc (suc j), less, is) = absurd (omega arith)

  pub out_one : (m : ℕ) → ((sp : Bool) (resolve : OperandPair → Option OperandPair) (n : ℕ) → Contains (m ∷ []) n ↔ GoesTo (program_of sp f.blocks resolve) b
      n) →
      t ≡ has_at_start l.slots l.blocks l.starts m x → DecidesIn f (λ g. LiveOut g x b) t
  out_one m goes e = live_out_by f l sets b x (m ∷ []) goes t
      (λ h. (m, first m m [] refl, sym e ∙ h), λ (n, c, s). e ∙ (ap (λ (k : ℕ). has_at_start l.slots l.blocks l.starts k x) (only m n c) ∙ s))

  or_cases : (p q : Bool) → (p || q) ≡ true → (p ≡ true) ⊎ (q ≡ true)
  or_cases true q e = inl refl
  or_cases false q e = inr e

  or_left : (p q : Bool) → p ≡ true → (p || q) ≡ true
  or_left p q e = ap (λ (r : Bool). r || q) e

  or_right : (p q : Bool) → q ≡ true → (p || q) ≡ true
  or_right true q e = refl
  or_right false q e = e

  pub out_two : (m k : ℕ) →
      ((sp : Bool) (resolve : OperandPair → Option OperandPair) (n : ℕ) → Contains (m ∷ k ∷ []) n ↔ GoesTo (program_of sp f.blocks resolve) b n) →
      t ≡ (has_at_start l.slots l.blocks l.starts m x || has_at_start l.slots l.blocks l.starts k x) → DecidesIn f (λ g. LiveOut g x b) t
  out_two m k goes e = live_out_by f l sets b x (m ∷ k ∷ []) goes t (there, back) where
    there : t ≡ true → (n : ℕ) × Contains (m ∷ k ∷ []) n × (has_at_start l.slots l.blocks l.starts n x ≡ true)
    there h = elim (or_cases (has_at_start l.slots l.blocks l.starts m x) (has_at_start l.slots l.blocks l.starts k x) (sym e ∙ h)) [
      | inl s ↦ (m, first m m (k ∷ []) refl, s)
      | inr s ↦ (k, (suc zero, omega arith, refl), s)
    ]

    back : ((n : ℕ) × Contains (m ∷ k ∷ []) n × (has_at_start l.slots l.blocks l.starts n x ≡ true)) → t ≡ true
    back (n, c, s) = e ∙ elim (either m k n c) [
      | inl i ↦ or_left (has_at_start l.slots l.blocks l.starts m x) (has_at_start l.slots l.blocks l.starts k x)
          (ap (λ (j : ℕ). has_at_start l.slots l.blocks l.starts j x) i ∙ s)
      | inr i ↦ or_right (has_at_start l.slots l.blocks l.starts m x) (has_at_start l.slots l.blocks l.starts k x)
          (ap (λ (j : ℕ). has_at_start l.slots l.blocks l.starts j x) i ∙ s)
    ]

-- ---- what was settled

-- the sets at first: nothing is found
pub begun : (f : Function) (slots ids : List ℕ) (starts : List (List ℕ)) → AllItems (λ i. SlotsIn slots i.kind) f.blocks →
    length starts ≡ length f.blocks → ((slots : List ℕ) (b : ℕ) (x : Place) → has slots (get_or starts b []) x ≡ false) →
    IsState slots ids f.blocks starts
begun f slots ids starts known long none = record { known = known; long = long; found = λ apart names. empty } where
  empty : AreFound slots ids f.blocks starts
  empty sp resolve n x = by_index (index_in ids n) where
    by_index : (o : Option ℕ) → has slots (set_at starts o) x ≡ true → Live (program_of sp f.blocks resolve) x (block_start n)
    by_index None e = let c : false ≡ true = sym (has_nothing slots x) ∙ e in absurd cc
    by_index (Some i) e = let c : false ≡ true = sym (none slots i x) ∙ e in absurd cc

pub solved : (f : Function) (slots ids : List ℕ) (starts : List (List ℕ)) → slots ≡ f.slots → ids ≡ ids_of f.blocks → AreApart (ids_of f.blocks) →
    IsState slots ids f.blocks starts → ((b : ℕ) → b < length f.blocks → IsClosed slots ids f.blocks starts b) →
    AreLiveSets f (record { slots = slots; blocks = ids; starts = starts })
solved f slots ids starts same names apart s closed = record {
  slots = same;
  blocks = names;
  apart = subst AreApart (sym names) apart;
  long = s.long;
  starts = λ n x sp resolve. (s.found apart names sp resolve n x, live_is_found slots ids f.blocks starts names closed sp resolve x n);
}
