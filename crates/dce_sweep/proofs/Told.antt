-- What is lost along the blocks is what the rule says is lost at each place.
use Rattle.std.proofs.Common.{◌≡◌, ◌↔◌, inl, inr, ℕ, zero, suc, ◌+◌, List, [], ◌∷◌, drop, get_or, Contains, Some, None, Bool, true, false, cond}
use Rattle.std.proofs.Common.{refl, sym, ap, ◌∙◌, subst, arith}
use Rattle.std.specs.Prelude.{option_to_list}
use Rattle.std.proofs.lemmas.List.Elements.{Contains-append_left, Contains-append_right, Contains-append_cases}
use Rattle.rv64_instr.specs.declared.place.Place.TheVariants.{Register}
use Rattle.mir_func.specs.declared.position.Pos.{Pos}
use Rattle.mir_func.specs.declared.position.Origin.{Origin}
use Rattle.mir_func.specs.declared.variable.MarkValue.TheVariants.{Nothing, Constant, At, Pair}
use Rattle.mir_func.specs.declared.block.Block.{Block}
use Rattle.mir_func.specs.declared.item.Item.{Item}
use Rattle.mir_func.specs.declared.item.ItemKind.{ItemKind}
use Rattle.mir_func.specs.declared.item.ItemKind.TheVariants.{Code, Mark, Phi}
use Rattle.mir_func.specs.Function.{Function}
use Rattle.mir_func.specs.Graph.{front, fetch_in, from_block, rest_in, rest_of}
use Rattle.mir_func.specs.Sound.{IsSound}
use Rattle.mir_func.specs.Successors.{pos_in}
use Rattle.sem_mir.proofs.Reading.{found, found_in}
use Rattle.pass_trait.specs.declared.loss.Reason.TheVariants.{Removed, WrongPlace}
use Rattle.pass_trait.specs.declared.loss.Loss.{Loss}
use Rattle.pass_trait.specs.Rule.{StandsAt, number_lost, mark_lost}
use Rattle.dce_stale.specs.dce_rule.Dead.{Places, Ends, is_dead, needed_at}
use Rattle.dce_stale.specs.dce_rule.Wrong.{begins_dead, is_dead_at}
use Rattle.dce_stale.specs.dce_rule.RemovalDebugRule.{LosesOf, LosesAt, AreWrong}
use Rattle.dce_stale.proofs.dce_rule.Lists.{rest_at}
use Rattle.dce_stale.specs.dce_analysis.Judge.{verdicts}
use Rattle.dce_sweep.specs.Left.{lost_of, lost_from, lost_in_block, lost_in}
use Rattle.dce_sweep.proofs.Steps.{verdict_is}

one_of : (a l : Loss) → Contains (a ∷ []) l → a ≡ l
one_of a l (zero, lt, e) = e
one_of a l (suc k, lt, e) = absurd (omega (arith, lt))

none_of : (l : Loss) → Contains [] l → ⊥
none_of l (k, lt, e) = omega (arith, lt)

is_there : (a l : Loss) → l ≡ a → Contains (a ∷ []) l
is_there a l e = (zero, omega arith, sym e)

-- lost if a test says so
lost_if : (z : Bool) (a l : Loss) → Contains (option_to_list (cond z (Some a) None)) l → (z ≡ true) × (l ≡ a)
lost_if true a l h = (refl, sym (one_of a l h))
lost_if false a l h = absurd (none_of l h)

if_lost : (z : Bool) (a l : Loss) → z ≡ true → l ≡ a → Contains (option_to_list (cond z (Some a) None)) l
if_lost true a l t e = is_there a l e
if_lost false a l t e = cc

module _ (f : Function) (sound : IsSound f) (ends : Ends) (wrong : Pos → Places) (exact : AreWrong ends f wrong) where
  -- ---- one item

  loses_of : (at : Pos) (k : ItemKind) (o : Origin) (dead : Bool) (l : Loss) → is_dead_at ends f at ≡ dead →
      Contains (option_to_list (lost_of (wrong at) dead k o)) l → LosesOf ends f at k o l
  loses_of at (Code i (Some n)) o dead l is h = let w = lost_if dead (number_lost n Removed) l h in (is ∙ w.0, w.1)
  loses_of at (Code i None) o dead l is h = absurd (none_of l h)
  loses_of at (Mark v (At r)) o dead l is h =
      let w = lost_if (wrong at (Register r)) (mark_lost o WrongPlace) l h in ((exact at (Register r)).0 w.0, w.1)
  loses_of at (Mark v Nothing) o dead l is h = absurd (none_of l h)
  loses_of at (Mark v (Constant n)) o dead l is h = absurd (none_of l h)
  loses_of at (Mark v (Pair q)) o dead l is h = absurd (none_of l h)
  loses_of at (Phi (Some x) n) o dead l is h = let w = lost_if (wrong at x) (number_lost n WrongPlace) l h in ((exact at x).0 w.0, w.1)
  loses_of at (Phi None n) o dead l is h = absurd (none_of l h)

  of_loses : (at : Pos) (k : ItemKind) (o : Origin) (dead : Bool) (l : Loss) → is_dead_at ends f at ≡ dead → LosesOf ends f at k o l →
      Contains (option_to_list (lost_of (wrong at) dead k o)) l
  of_loses at (Code i (Some n)) o dead l is h = if_lost dead (number_lost n Removed) l (sym is ∙ h.0) h.1
  of_loses at (Code i None) o dead l is h = absurd h
  of_loses at (Mark v (At r)) o dead l is h = if_lost (wrong at (Register r)) (mark_lost o WrongPlace) l ((exact at (Register r)).1 h.0) h.1
  of_loses at (Mark v Nothing) o dead l is h = absurd h
  of_loses at (Mark v (Constant n)) o dead l is h = absurd h
  of_loses at (Mark v (Pair q)) o dead l is h = absurd h
  of_loses at (Phi (Some x) n) o dead l is h = if_lost (wrong at x) (number_lost n WrongPlace) l ((exact at x).1 h.0) h.1
  of_loses at (Phi None n) o dead l is h = absurd h

  -- ---- the items of a block

  dead_of : (at : Pos) (x : Item) (is : List Item) → rest_of f.blocks at ≡ x ∷ is →
      is_dead_at ends f at ≡ is_dead x.kind (needed_at is (ends at.block))
  dead_of at x is e = ap (λ (xs : List Item). begins_dead xs (ends at.block)) e

  module _ (b : Block) (member : Contains f.blocks b) where
    abbrev w : ℕ → Places
    w = λ n. wrong (pos_in b.id n)

    abbrev d : List Bool
    d = verdicts b.items (ends b.id)

    stands_in : (n : ℕ) (x : Item) (xs : List Item) → drop n b.items ≡ x ∷ xs →
        StandsAt f (pos_in b.id n) x × (rest_of f.blocks (pos_in b.id n) ≡ x ∷ xs)
    stands_in n x xs e =
        let u = found f.blocks sound.blocks_apart b member in (
          ap (λ (bs : List Block). fetch_in bs n) u.at ∙ ap (λ (ys : List Item). front ys b.source_end u.rest) e,
          ap (λ (bs : List Block). rest_in bs n) u.at ∙ e,
        )

    drop_next : (xs : List Item) (n : ℕ) (y : Item) (ys : List Item) → drop n xs ≡ y ∷ ys → drop (suc n) xs ≡ ys
    drop_next [] zero y ys e = cc
    drop_next [] (suc n) y ys e = cc
    drop_next (x ∷ []) zero y ys e = let tail : [] ≡ ys = cc in tail
    drop_next (x ∷ z ∷ xs) zero y ys e = let tail : z ∷ xs ≡ ys = cc in tail
    drop_next (x ∷ xs) (suc n) y ys e = drop_next xs n y ys e

    from_items : (n : ℕ) (xs : List Item) (l : Loss) → drop n b.items ≡ xs → Contains (lost_from w d n xs) l → (at : Pos) × LosesAt ends f at l
    from_items n [] l e h = absurd (none_of l h)
    from_items n (x ∷ xs) l e h = elim
        (Contains-append_cases (option_to_list (lost_of (w n) (get_or d n false) x.kind x.origin)) (lost_from w d (suc n) xs) l h) [
          | inl here ↦ (
              let u = stands_in n x xs e in
              let is : is_dead_at ends f (pos_in b.id n) ≡ get_or d n false = dead_of (pos_in b.id n) x xs u.1 ∙ sym
              (verdict_is b.items (ends b.id) n x xs e) in
              (pos_in b.id n, (x, u.0, loses_of (pos_in b.id n) x.kind x.origin (get_or d n false) l is here))
              )
          | inr more ↦ from_items (suc n) xs l (drop_next b.items n x xs e) more
        ]

    drop_zero : (xs : List Item) → drop 0 xs ≡ xs
    drop_zero [] = refl
    drop_zero (x ∷ xs) = refl

    from_block_lost : (l : Loss) → Contains (lost_in_block wrong ends b) l → (at : Pos) × LosesAt ends f at l
    from_block_lost l h = from_items 0 b.items l (drop_zero b.items) h

  -- what is lost of the item at an index
  of_items : (w : ℕ → Places) (d : List Bool) (l : Loss) (n : ℕ) (xs : List Item) (j m : ℕ) (x : Item) (more : List Item) → m ≡ n + j →
      drop j xs ≡ x ∷ more → Contains (option_to_list (lost_of (w m) (get_or d m false) x.kind x.origin)) l → Contains (lost_from w d n xs) l
  of_items w d l n [] zero m x more is e h = cc
  of_items w d l n [] (suc j) m x more is e h = cc
  of_items w d l n (y ∷ ys) zero m x more is e h =
      let one : y ≡ x = cc in
      let here : m ≡ n = omega (arith, is) in
      Contains-append_left (option_to_list (lost_of (w n) (get_or d n false) y.kind y.origin)) (lost_from w d (suc n) ys) l
      (subst (λ (z : Item). Contains (option_to_list (lost_of (w n) (get_or d n false) z.kind z.origin)) l) (sym one)
      (subst (λ (k : ℕ). Contains (option_to_list (lost_of (w k) (get_or d k false) x.kind x.origin)) l) here h))
  of_items w d l n (y ∷ ys) (suc j) m x more is e h =
      Contains-append_right (option_to_list (lost_of (w n) (get_or d n false) y.kind y.origin)) (lost_from w d (suc n) ys) l
      (of_items w d l (suc n) ys j m x more (omega (arith, is)) e h)

  -- ---- all blocks

  from_blocks : (bs : List Block) (l : Loss) → ((b : Block) → Contains bs b → Contains f.blocks b) → Contains (lost_in wrong ends bs) l →
      (at : Pos) × LosesAt ends f at l
  from_blocks [] l members h = absurd (none_of l h)
  from_blocks (b ∷ bs) l members h = elim (Contains-append_cases (lost_in_block wrong ends b) (lost_in wrong ends bs) l h) [
    | inl here ↦ from_block_lost b (members b (zero, omega arith, refl)) l here
    | inr more ↦ from_blocks bs l (λ c k. members c (let u = k in (suc u.0, (let lt = u.1 in omega (arith, lt)), u.2))) more
  ]

  of_blocks : (bs : List Block) (b : Block) (l : Loss) → Contains bs b → Contains (lost_in_block wrong ends b) l → Contains (lost_in wrong ends bs) l
  of_blocks [] b l (k, lt, e) h = absurd (omega (arith, lt))
  of_blocks (c ∷ bs) b l (zero, lt, e) h =
      Contains-append_left (lost_in_block wrong ends c) (lost_in wrong ends bs) l (subst (λ (z : Block). Contains (lost_in_block wrong ends z) l) (sym e) h)
  of_blocks (c ∷ bs) b l (suc k, lt, e) h =
      Contains-append_right (lost_in_block wrong ends c) (lost_in wrong ends bs) l (of_blocks bs b l (k, omega (arith, lt), e) h)

  of_place : (at : Pos) (l : Loss) → LosesAt ends f at l → Contains (lost_in wrong ends f.blocks) l
  of_place at l (x, stands, loses) = by_blocks (from_block f.blocks at.block) refl (rest_at false f.blocks (λ q. None) at x stands) where
    by_blocks : (bs : List Block) → from_block f.blocks at.block ≡ bs → (is : List Item) × (rest_of f.blocks at ≡ x ∷ is) →
        Contains (lost_in wrong ends f.blocks) l
    by_blocks [] g (is, e) = let bad : [] ≡ x ∷ is = ap (λ (bs : List Block). rest_in bs at.item) (sym g) ∙ e in absurd cc
    by_blocks (b ∷ bs) g (is, e) =
        let k = found_in f.blocks at.block b bs g in
        let there : drop at.item b.items ≡ x ∷ is = ap (λ (cs : List Block). rest_in cs at.item) (sym g) ∙ e in
        let dead : is_dead_at ends f at ≡ get_or (verdicts b.items (ends b.id)) at.item false =
        dead_of at x is e ∙ ap (λ (n : ℕ). is_dead x.kind (needed_at is (ends n))) (sym k.1) ∙ sym (verdict_is b.items (ends b.id) at.item x is there) in
        of_blocks f.blocks b l k.0
        (of_items (λ n. wrong (pos_in b.id n)) (verdicts b.items (ends b.id)) l 0 b.items at.item at.item x is (omega arith) there
        (subst (λ (n : ℕ). Contains (option_to_list
        (lost_of (wrong (pos_in n at.item)) (get_or (verdicts b.items (ends b.id)) at.item false) x.kind x.origin)) l)
        (sym k.1) (of_loses at x.kind x.origin (get_or (verdicts b.items (ends b.id)) at.item false) l dead loses)))

  pub all_told : (l : Loss) → Contains (lost_in wrong ends f.blocks) l ↔ ((at : Pos) × LosesAt ends f at l)
  all_told l = (from_blocks f.blocks l (λ b h. h), λ h. of_place h.0 l h.1)
