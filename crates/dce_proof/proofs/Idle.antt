-- Where nothing is dead all stays, and nothing is lost.
use Rattle.std.proofs.Common.{◌≡◌, ◌↔◌, ℕ, zero, suc, ◌≤◌, List, [], ◌∷◌, ◌++◌}
use Rattle.std.proofs.Common.{map, length, drop, get_or, Contains, Bool, true, false, cond, ◌||◌}
use Rattle.std.proofs.Common.{append-nil, refl, sym, ap, ◌∙◌, subst, arith}
use Rattle.mir_func.specs.declared.position.Pos.{Pos}
use Rattle.mir_func.specs.declared.block.Block.{Block}
use Rattle.mir_func.specs.declared.debug_substitution.DebugSubstitution.{DebugSubstitution}
use Rattle.mir_func.specs.declared.item.Item.{Item}
use Rattle.mir_func.specs.Function.{Function}
use Rattle.pass_trait.specs.declared.loss.Loss.{Loss}
use Rattle.pass_trait.specs.Change.{change}
use Rattle.pass_trait.specs.Debug.{KeepsItems}
use Rattle.dce_round.specs.dce_rule.Dead.{Places, Ends, is_dead, needed_at, without_dead, thinned_block}
use Rattle.dce_round.specs.dce_rule.Wrong.{taken_out}
use Rattle.dce_round.specs.dce_rule.RemovalDebugRule.{LosesAt, AreWrong}
use Rattle.dce_round.specs.dce_analysis.Judge.{verdicts, AreJudged}
use Rattle.dce_salvage.specs.SalvageNumbers.{SoFar, salvage_at, salvage_down}
use Rattle.pass_salvage.specs.SalvageAction.{going_from}
use Rattle.dce_salvage.specs.SalvageBlocks.{BlocksSoFar, in_block, salvage_block, with_front, salvage_blocks}
use Rattle.dce_round.specs.dce_salvage_proof.SalvageLaws.{begins_off, all_off, function_off}
use Rattle.dce_round.proofs.dce_sweep.None.{some_true, some_dead, blocks_same, never_wrong, loses_none, right_false}
use Rattle.dce_proof.specs.DebugRule.{dead_rule}
use Rattle.dce_proof.specs.DebugLaws.{IdleKeepsItems}
use Rattle.dce_proof.proofs.Blocks.{verdicts_of}
use Rattle.dce_proof.proofs.Here.{c}
use Rattle.dce_proof.proofs.Whole.{items_kept}

-- ---- nothing is dead

left_short : (needed : Places) (xs : List Item) → length (without_dead xs needed) ≤ length xs
left_short needed [] = omega arith
left_short needed (x ∷ xs) = by_test (is_dead x.kind (needed_at xs needed)) (left_short needed xs) where
  by_test : (z : Bool) → length (without_dead xs needed) ≤ length xs →
      length (cond z (without_dead xs needed) (x ∷ without_dead xs needed)) ≤ length (x ∷ xs)
  by_test true le = omega (arith, le)
  by_test false le = omega (arith, le)

none_items : (needed : Places) (xs : List Item) → without_dead xs needed ≡ xs → some_true (verdicts xs needed) ≡ false
none_items needed [] e = refl
none_items needed (x ∷ xs) e = by_test (is_dead x.kind (needed_at xs needed)) refl (none_items needed xs) e where
  by_test : (z : Bool) → is_dead x.kind (needed_at xs needed) ≡ z → (without_dead xs needed ≡ xs → some_true (verdicts xs needed) ≡ false) →
      cond z (without_dead xs needed) (x ∷ without_dead xs needed) ≡ x ∷ xs → some_true (is_dead x.kind (needed_at xs needed) ∷ verdicts xs needed) ≡ false
  by_test true is rec e =
      let le = left_short needed xs in
      let long : length (without_dead xs needed) ≡ length (x ∷ xs) = ap length e in
      absurd (omega (arith, le, long))
  by_test false is rec e = ap (λ (z : Bool). some_true (z ∷ verdicts xs needed)) is ∙ rec (let tail : without_dead xs needed ≡ xs = cc in tail)

none_blocks : (ends : Ends) (bs : List Block) → map (thinned_block ends) bs ≡ bs → some_dead (verdicts_of ends bs) ≡ false
none_blocks ends [] e = refl
none_blocks ends (b ∷ bs) e =
    let head : thinned_block ends b ≡ b = cc in
    let tail : map (thinned_block ends) bs ≡ bs = cc in
    let here = none_items (ends b.id) b.items (ap (λ (d : Block). d.items) head) in
    ap (λ (z : Bool). z || some_dead (verdicts_of ends bs)) here ∙ none_blocks ends bs tail

-- ---- no copy loses its number

none_at : (vs : List Bool) (k : ℕ) → some_true vs ≡ false → get_or vs k false ≡ false
none_at [] k e = refl
none_at (true ∷ vs) k e = cc
none_at (false ∷ vs) zero e = refl
none_at (false ∷ vs) (suc k) e = none_at vs k e

down_none : (removed : List ℕ) (dead : List Bool) (n : ℕ) (a : SoFar) → some_true dead ≡ false → salvage_down removed dead n a ≡ a
down_none removed dead zero a e = refl
down_none removed dead (suc n) a e =
    ap (λ (z : Bool). salvage_down removed dead n (salvage_at removed n z a)) (none_at dead n e) ∙ down_none removed dead n a e

first_none : (vs : List Bool) (vss : List (List Bool)) → some_dead (vs ∷ vss) ≡ false → some_true vs ≡ false
first_none vs vss e = by_test (some_true vs) refl e where
  by_test : (z : Bool) → some_true vs ≡ z → some_dead (vs ∷ vss) ≡ false → some_true vs ≡ false
  by_test true is e = cc
  by_test false is e = is

drop_zero : {A : Type 0} (xs : List A) → drop 0 xs ≡ xs
drop_zero [] = refl
drop_zero (x ∷ xs) = refl

head_none : (ds : List (List Bool)) → some_dead ds ≡ false → some_true (get_or ds 0 []) ≡ false
head_none [] e = refl
head_none (vs ∷ vss) e = first_none vs vss e

rest_none : (ds : List (List Bool)) → some_dead ds ≡ false → some_dead (drop 1 ds) ≡ false
rest_none [] e = refl
rest_none (vs ∷ vss) e = ap some_dead (drop_zero vss) ∙ right_false (some_true vs) (some_dead vss) e

off_none : (ds : List (List Bool)) (bs : List Block) (a : BlocksSoFar) → some_dead ds ≡ false → a.blocks ≡ [] →
    salvage_blocks ds bs a ≡ record { blocks = bs; subs = a.subs; fresh = a.fresh; lost = a.lost }
off_none ds [] a e none = λ t. record { blocks = none t; subs = a.subs; fresh = a.fresh; lost = a.lost }
off_none ds (b ∷ bs) a e none =
    let d : List Bool = get_or ds 0 [] in
    let m : BlocksSoFar = salvage_blocks (drop 1 ds) bs a in
    let here : salvage_block d b m ≡ in_block b m = down_none (going_from 0 d) d (length b.items) (in_block b m) (head_none ds e) in
    let rest = off_none (drop 1 ds) bs a (rest_none ds e) none in
    ap (with_front b m) here ∙ ap (λ (z : BlocksSoFar). with_front b z (in_block b z)) rest

-- where nothing is dead the rule keeps all
pub idle_keeps : IdleKeepsItems
idle_keeps f subs sound r =
    let ends : Ends = r.ends in
    let dead : List (List Bool) = verdicts_of r.ends f.blocks in
    let judged : AreJudged f (verdicts_of r.ends f.blocks) = record { ends = r.ends; live = r.live; verdicts_are = refl } in
    let none : some_dead dead ≡ false = none_blocks ends f.blocks (sym (ap (λ (g : Function). g.blocks) r.thins)) in
    let off = off_none dead f.blocks (begins_off f subs) none refl in
    let same : function_off f subs dead ≡ f = (λ t. record f { blocks = (off t).blocks }) in
    let never : Pos → Places = λ p x. false in
    let exact : AreWrong ends (function_off f subs dead) (λ p x. false) =
    subst (λ (g : Function). AreWrong ends g (λ p x. false)) (sym same) (λ p x. (λ h. absurd cc, λ w. absurd (never_wrong f ends none x w))) in
    let told : (l : Loss) → Contains [] l ↔ ((at : Pos) × LosesAt ends (function_off f subs dead) at l) =
    subst (λ (g : Function). (l : Loss) → Contains [] l ↔ ((at : Pos) × LosesAt ends g at l)) (sym same)
    (λ l. (λ h. absurd (let lt = h.1 in omega (arith, lt)), λ h. absurd (loses_none f ends none h.0 h.1.0.kind h.1.0.origin l h.1.2))) in
    let lost : (all_off f subs dead).lost ++ [] ≡ [] = append-nil (all_off f subs dead).lost ∙ ap (λ (z : BlocksSoFar). z.lost) off in
    let each : (l : Loss) → Contains [] l ↔ Contains ((all_off f subs dead).lost ++ []) l =
    (λ l. subst (λ (ls : List Loss). Contains [] l ↔ Contains ls l) (sym lost) (λ h. h, λ h. h)) in
    let kept : KeepsItems dead_rule (c f subs dead sound judged (λ p x. false)) [] =
    items_kept f subs dead sound judged (λ p x. false) exact [] [] told each (λ i j d lt lt'. absurd (omega (arith, lt'))) in
    let out : taken_out (λ p x. false) ends (function_off f subs dead) ≡ f =
    ap (λ (g : Function). taken_out (λ p x. false) ends g) same ∙ (let bs = blocks_same ends f.blocks none in λ t. record f { blocks = bs t }) in
    subst (λ (g : Function). KeepsItems dead_rule (change f subs g subs) []) out
    (subst (λ (es : List DebugSubstitution). KeepsItems dead_rule (change f subs (taken_out (λ p x. false) ends (function_off f subs dead)) es) [])
    (ap (λ (z : BlocksSoFar). z.subs) off) kept)
