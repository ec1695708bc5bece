-- What each item becomes.
use Rattle.std.proofs.Common.{◌≡◌, ℕ, zero, suc, ◌+◌, List, [], ◌∷◌, drop, Contains, Option, Some, None, Bool, true, false, cond, refl, sym, ap, ◌∙◌}
use Rattle.std.proofs.Common.{subst, arith}
use Rattle.std.proofs.lemmas.List.Elements.{All-nil}
use Rattle.rv64_instr.specs.declared.place.Place.TheVariants.{Register, Slot, Const}
use Rattle.mir_func.specs.declared.block.Block.{Block}
use Rattle.mir_func.specs.declared.debug_substitution.DebugSubstitution.{DebugSubstitution}
use Rattle.mir_func.specs.declared.item.Item.{Item}
use Rattle.mir_func.specs.declared.item.ItemKind.{ItemKind}
use Rattle.mir_func.specs.declared.item.ItemKind.TheVariants.{Code, Mark, Phi}
use Rattle.mir_func.specs.declared.location.Loc.{Loc}
use Rattle.mir_func.specs.declared.position.Origin.{Origin}
use Rattle.mir_func.specs.declared.position.Pos.{Pos}
use Rattle.mir_func.specs.declared.variable.MarkValue.TheVariants.{Nothing, Constant, At, Pair}
use Rattle.mir_func.specs.declared.variable.VarId.{VarId}
use Rattle.mir_func.specs.Function.{Function}
use Rattle.mir_func.specs.Graph.{Here, fetch_in, from_block, front}
use Rattle.mir_func.specs.Positions.{position_of}
use Rattle.mir_func.specs.Sound.{AreApart, ids_of}
use Rattle.pass_trait.proofs.sem_mir.Reading.{found}
use Rattle.pass_trait.specs.declared.loss.Loss.{Loss}
use Rattle.pass_trait.specs.declared.loss.Lost.TheVariants as lost
use Rattle.pass_trait.specs.declared.loss.Reason.TheVariants.{WrongPlace}
use Rattle.pass_trait.specs.Causes.{AsksFor}
use Rattle.pass_trait.specs.Change.{Change, change}
use Rattle.pass_trait.specs.Debug.{RegisterStays, IsKillAt, Becomes, mark_stays, phi_stays, code_stays, code_unnumbered, mark_silenced, phi_silenced}
use Rattle.pass_trait.specs.Debug.{mark_renamed, phi_renamed, BecomeAll, over, next, BlocksBecome, none, stays as block_stays}
use Rattle.pass_trait.specs.Rule.{Rule, StandsAt, item, mark_lost, number_lost}
use Rattle.scan_simulation.specs.scan_allocation.Allocation.{IsAllocation}
use Rattle.scan_simulation.specs.scan_allocation.Coloring.{now_by, now}
use Rattle.scan_simulation.specs.scan_rule.Rewrite.{value_now, place_now, kind_now, items_now, blocks_now, allotted}
use Rattle.scan_simulation.specs.scan_rule.Step.{IsSilenced, DecidesSilence, allot_debug}
use Rattle.scan_simulation.proofs.scan_rule.Same.{one_allocation}

not_both : {b : Bool} → b ≡ false → b ≡ true → ⊥
not_both e f = cc

module _ (reserve : List ℕ) (f : Function) (subs : List DebugSubstitution) (given : ℕ → Option ℕ) (silent : Pos → ℕ → Bool)
    (a : IsAllocation reserve f given) (decides : DecidesSilence (change f subs (allotted given silent f) subs) given silent) where
  abbrev c : Change
  c = change f subs (allotted given silent f) subs

  abbrev rule : Rule
  rule = allot_debug reserve

  -- what is lost is lost by the one allocation
  by_one : (at : Pos) (loss : Loss) → rule.loses c at loss → IsSilenced c given at loss
  by_one at loss (other, b, s) = subst (λ (g : ℕ → Option ℕ). IsSilenced c g at loss) (one_allocation reserve f other given b a) s

  one_item : (at : Pos) (x y : Item) → StandsAt f at x → StandsAt f at y → x ≡ y
  one_item at x y h k = let w : Here x ≡ Here y = sym h ∙ k in cc

  module _ (at : Pos) where
    -- nothing is lost of what asks for no register
    unlost : (x : Item) → StandsAt f at x → ((r : ℕ) → AsksFor (Register r) x.kind → silent at r ≡ false) → (loss : Loss) → rule.loses c at loss → ⊥
    unlost x stands quiet loss l =
        let s = by_one at loss l in
        let same : s.item ≡ x = one_item at s.item x s.stands stands in
        let asks : AsksFor (Register s.register) x.kind = subst (λ (i : Item). AsksFor (Register s.register) i.kind) same s.asks in
        not_both (quiet s.register asks) ((decides at s.item s.register s.stands s.asks).1 s.silent)

    -- a register that gets no other isn't renamed
    register_stays : (r : ℕ) → given r ≡ None → RegisterStays rule c r
    register_stays r e = (
      λ slot h. h,
      λ to (other, b, h). (let same : given r ≡ Some to = ap (λ (g : ℕ → Option ℕ). g r) (one_allocation reserve f given other a b) ∙ h in
          let bad : ◌≡◌ {A = Option ℕ} None (Some to) = sym e ∙ same in cc),
    )

    mark_at : (v : VarId) (r : ℕ) (o : Origin) (l : Loc) → StandsAt f at (item (Mark v (At r)) o l) →
        Becomes rule c at (item (Mark v (At r)) o l) (item (Mark v (value_now given (silent at) (At r))) o l ∷ [])
    mark_at v r o l stands = by_test (silent at r) refl where
      one_register : (q : ℕ) → AsksFor (Register q) (Mark v (At r)) → q ≡ r
      one_register q e = let w : Register q ≡ Register r = e in cc

      by_given : silent at r ≡ false → (x : Option ℕ) → given r ≡ x → Becomes rule c at (item (Mark v (At r)) o l) (item (Mark v (At (now_by r x))) o l ∷ [])
      by_given quiet None e =
          mark_stays (λ why h. unlost (item (Mark v (At r)) o l) stands (λ q k. ap (silent at) (one_register q k) ∙ quiet) (mark_lost o why) h)
          (register_stays r e)
      by_given quiet (Some q) e =
          mark_renamed (λ why h. unlost (item (Mark v (At r)) o l) stands (λ s k. ap (silent at) (one_register s k) ∙ quiet) (mark_lost o why) h)
          (given, a, e)

      by_test : (z : Bool) → silent at r ≡ z →
          Becomes rule c at (item (Mark v (At r)) o l) (item (Mark v (cond z Nothing (At (now given r)))) o l ∷ [])
      by_test false quiet = by_given quiet (given r) refl
      by_test true wrong = mark_silenced WrongPlace refl (
        given,
        a,
        record {
          item = item (Mark v (At r)) o l;
          register = r;
          what = lost.Mark (position_of o);
          stands = stands;
          asks = refl;
          silent = (decides at (item (Mark v (At r)) o l) r stands refl).0 wrong;
          lost = refl;
          is = refl;
        },
      )

    phi_at : (r k : ℕ) (o : Origin) (l : Loc) → StandsAt f at (item (Phi (Some (Register r)) k) o l) →
        Becomes rule c at (item (Phi (Some (Register r)) k) o l) (item (Phi (place_now given (silent at) (Some (Register r))) k) o l ∷ [])
    phi_at r k o l stands = by_test (silent at r) refl where
      one_register : (q : ℕ) → AsksFor (Register q) (Phi (Some (Register r)) k) → q ≡ r
      one_register q e = let w : Register q ≡ Register r = e in cc

      by_given : silent at r ≡ false → (x : Option ℕ) → given r ≡ x →
          Becomes rule c at (item (Phi (Some (Register r)) k) o l) (item (Phi (Some (Register (now_by r x))) k) o l ∷ [])
      by_given quiet None e =
          phi_stays (λ why h. unlost (item (Phi (Some (Register r)) k) o l) stands (λ q j. ap (silent at) (one_register q j) ∙ quiet) (number_lost k why) h)
          (register_stays r e)
      by_given quiet (Some q) e =
          phi_renamed (λ why h. unlost (item (Phi (Some (Register r)) k) o l) stands (λ s j. ap (silent at) (one_register s j) ∙ quiet) (number_lost k why) h)
          (given, a, e)

      by_test : (z : Bool) → silent at r ≡ z →
          Becomes rule c at (item (Phi (Some (Register r)) k) o l) (item (Phi (cond z None (Some (Register (now given r)))) k) o l ∷ [])
      by_test false quiet = by_given quiet (given r) refl
      by_test true wrong = phi_silenced WrongPlace refl (
        given,
        a,
        record {
          item = item (Phi (Some (Register r)) k) o l;
          register = r;
          what = lost.Number k;
          stands = stands;
          asks = refl;
          silent = (decides at (item (Phi (Some (Register r)) k) o l) r stands refl).0 wrong;
          lost = refl;
          is = refl;
        },
      )

    -- no register is asked for
    none_asked : (x : Item) → StandsAt f at x → ((r : ℕ) → AsksFor (Register r) x.kind → ⊥) → (loss : Loss) → rule.loses c at loss → ⊥
    none_asked x stands unasked loss h = unlost x stands (λ r k. absurd (unasked r k)) loss h

    becomes : (k : ItemKind) (o : Origin) (l : Loc) → StandsAt f at (item k o l) →
        Becomes rule c at (item k o l) (item (kind_now given (silent at) k) o l ∷ [])
    becomes (Code i None) o l stands = code_unnumbered (λ n h. h)
    becomes (Code i (Some n)) o l stands = code_stays (λ why h. none_asked (item (Code i (Some n)) o l) stands (λ r k. k) (number_lost n why) h)
    becomes (Mark v Nothing) o l stands = mark_stays (λ why h. none_asked (item (Mark v Nothing) o l) stands (λ r k. k) (mark_lost o why) h) tt
    becomes (Mark v (Constant z)) o l stands = mark_stays (λ why h. none_asked (item (Mark v (Constant z)) o l) stands (λ r k. k) (mark_lost o why) h) tt
    becomes (Mark v (Pair q)) o l stands = mark_stays (λ why h. none_asked (item (Mark v (Pair q)) o l) stands (λ r k. k) (mark_lost o why) h) tt
    becomes (Mark v (At r)) o l stands = mark_at v r o l stands
    becomes (Phi None n) o l stands = phi_stays (λ why h. none_asked (item (Phi None n) o l) stands (λ r k. k) (number_lost n why) h) tt
    becomes (Phi (Some (Slot m)) n) o l stands =
        phi_stays (λ why h. none_asked (item (Phi (Some (Slot m)) n) o l) stands (λ r k. (let w : Register r ≡ Slot m = k in cc)) (number_lost n why) h) tt
    becomes (Phi (Some (Const z)) n) o l stands =
        phi_stays (λ why h. none_asked (item (Phi (Some (Const z)) n) o l) stands (λ r k. (let w : Register r ≡ Const z = k in cc)) (number_lost n why) h) tt
    becomes (Phi (Some (Register r)) n) o l stands = phi_at r n o l stands

  -- ---- blocks

  drop_more : (xs : List Item) (n : ℕ) (x : Item) (rest : List Item) → drop n xs ≡ x ∷ rest → drop (suc n) xs ≡ rest
  drop_more [] zero x rest e = cc
  drop_more [] (suc n) x rest e = cc
  drop_more (y ∷ ys) zero x rest e = let others : ys ≡ rest = cc in drop_none ys ∙ others where
    drop_none : (zs : List Item) → drop 0 zs ≡ zs
    drop_none [] = refl
    drop_none (z ∷ zs) = refl
  drop_more (y ∷ ys) (suc n) x rest e = drop_more ys n x rest e

  items_become : (b : Block) (cs : List Block) → from_block f.blocks b.id ≡ b ∷ cs → (n : ℕ) (xs : List Item) → drop n b.items ≡ xs →
      BecomeAll rule c b.id n xs (items_now given silent b.id n xs)
  items_become b cs at n [] e = over
  items_become b cs at n (x ∷ xs) e =
      let p : Pos = record { block = b.id; item = n } in
      let stands : StandsAt f p x = ap (λ (bs : List Block). fetch_in bs n) at ∙ ap (λ (is : List Item). front is b.source_end cs) e in
      let more : suc n ≡ n + 1 = omega arith in
      next (becomes p x.kind x.origin x.loc stands)
      (subst (λ (m : ℕ). BecomeAll rule c b.id (suc n) xs (items_now given silent b.id m xs)) more
      (subst (λ (m : ℕ). BecomeAll rule c b.id m xs (items_now given silent b.id m xs)) (sym more)
      (items_become b cs at (n + 1) xs (ap (λ (m : ℕ). drop m b.items) (sym more) ∙ drop_more b.items n x xs e))))

  blocks_become : AreApart (ids_of f.blocks) → (bs : List Block) → ((b : Block) → Contains bs b → Contains f.blocks b) →
      BlocksBecome rule c bs (blocks_now given silent bs)
  blocks_become apart [] among = none
  blocks_become apart (b ∷ bs) among =
      let w = found f.blocks apart b (among b (0, omega arith, refl)) in
      block_stays [] (items_now given silent b.id 0 b.items) refl refl refl refl (All-nil (IsKillAt rule c b.id))
      (items_become b w.rest w.at 0 b.items (drop_none b.items))
      (blocks_become apart bs (λ d k. among d (suc k.0, (let lt = k.1 in omega (arith, lt)), k.2))) where
        drop_none : (zs : List Item) → drop 0 zs ≡ zs
        drop_none [] = refl
        drop_none (z ∷ zs) = refl

  pub all_become : AreApart (ids_of f.blocks) → BlocksBecome rule c f.blocks (blocks_now given silent f.blocks)
  all_become apart = blocks_become apart f.blocks (λ b k. k)
