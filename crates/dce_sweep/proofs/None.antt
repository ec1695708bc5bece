-- Where nothing is dead, nothing is wrong and nothing goes; where something is, there is less code.
use Rattle.std.proofs.Common.{◌≡◌, ℕ, zero, suc, ◌+◌, ◌<◌, ◌≤◌, List, [], ◌∷◌, ◌++◌, map, count_by}
use Rattle.std.proofs.Common.{drop, get_or, Contains, Some, None}
use Rattle.std.proofs.Common.{Bool, true, false, cond, ◌||◌, refl, sym, ap, ◌∙◌, subst, arith}
use Rattle.std.specs.List.{list_any}
use Rattle.std.proofs.lemmas.List.Sums.{sum_by-cons, sum_by-append}
use Rattle.rv64_instr.specs.declared.place.Place.{Place}
use Rattle.mir_func.specs.declared.position.Pos.{Pos}
use Rattle.mir_func.specs.declared.position.Origin.{Origin}
use Rattle.mir_func.specs.declared.variable.MarkValue.TheVariants.{Nothing, Constant, At, Pair}
use Rattle.mir_func.specs.declared.block.Block.{Block}
use Rattle.mir_func.specs.declared.item.Item.{Item}
use Rattle.mir_func.specs.declared.item.ItemKind.{ItemKind}
use Rattle.mir_func.specs.declared.item.ItemKind.TheVariants.{Code, Mark, Phi}
use Rattle.mir_func.specs.Function.{Function}
use Rattle.mir_func.specs.Graph.{from_block, rest_in}
use Rattle.mir_func.specs.Sound.{IsSound, AllItems, HasForm, items_of}
use Rattle.mir_func.specs.Successors.{pos_in}
use Rattle.sem_mir.specs.Align.{is_code}
use Rattle.sem_mir.proofs.Reading.{found_in}
use Rattle.pass_trait.specs.declared.loss.Loss.{Loss}
use Rattle.dce_stale.specs.dce_rule.Dead.{Places, Ends, is_dead, needed_at, without_dead, thinned_block, IsRound}
use Rattle.dce_stale.specs.dce_rule.Wrong.{begins_dead, silenced, silenced_left, silenced_block, taken_out, is_dead_at, IsWrongAt, made, on}
use Rattle.dce_stale.specs.dce_rule.RemovalDebugRule.{LosesOf}
use Rattle.dce_stale.proofs.dce_rule.Lists.{quiet}
use Rattle.dce_stale.proofs.dce_rule.Sound.{left_of, left_items}
use Rattle.dce_stale.proofs.dce_rule.Fewer.{count_left, quiet_code}
use Rattle.dce_stale.specs.dce_analysis.Judge.{verdicts, AreJudged}
use Rattle.dce_stale.specs.Sets.{AreVerdicts, StaleSets, AreStaleSets, wrong_of, starts_of}
use Rattle.dce_stale.proofs.Exact.{begins_at}
use Rattle.dce_sweep.specs.Left.{lost_in}
use Rattle.dce_sweep.specs.Round.{IsTakenOut}
use Rattle.dce_sweep.proofs.Told.{all_told}

-- some of these tests is true
abbrev pub some_true : List Bool → Bool
some_true vs = list_any (λ d. d) vs

abbrev pub some_dead : List (List Bool) → Bool
some_dead vss = list_any (λ vs. list_any (λ d. d) vs) vss

abbrev verdicts_in : Ends → Block → List Bool
verdicts_in ends b = verdicts b.items (ends b.id)

left_false : (a b : Bool) → (a || b) ≡ false → a ≡ false
left_false true b e = e
left_false false b e = refl

pub right_false : (a b : Bool) → (a || b) ≡ false → b ≡ false
right_false true b e = absurd cc
right_false false b e = e

-- ---- nothing is dead

none_at : (vs : List Bool) (k : ℕ) → some_true vs ≡ false → get_or vs k false ≡ false
none_at [] k e = refl
none_at (v ∷ vs) zero e = left_false v (some_true vs) e
none_at (v ∷ vs) (suc k) e = none_at vs k (right_false v (some_true vs) e)

none_in : (ends : Ends) (bs : List Block) (b : Block) → some_dead (map (verdicts_in ends) bs) ≡ false → Contains bs b → some_true (verdicts_in ends b) ≡ false
none_in ends [] b e (k, lt, is) = absurd (omega (arith, lt))
none_in ends (c ∷ bs) b e (zero, lt, is) =
    ap (λ (z : Block). some_true (verdicts_in ends z)) (sym is) ∙ left_false (some_true (verdicts_in ends c)) (some_dead (map (verdicts_in ends) bs)) e
none_in ends (c ∷ bs) b e (suc k, lt, is) =
    none_in ends bs b (right_false (some_true (verdicts_in ends c)) (some_dead (map (verdicts_in ends) bs)) e) (k, omega (arith, lt), is)

pub silent_itself : (k : ItemKind) → silenced (λ x. false) k ≡ k
silent_itself (Code i n) = refl
silent_itself (Mark v Nothing) = refl
silent_itself (Mark v (Constant n)) = refl
silent_itself (Mark v (At r)) = refl
silent_itself (Mark v (Pair q)) = refl
silent_itself (Phi (Some x) n) = refl
silent_itself (Phi None n) = refl

items_same : (needed : Places) (n : ℕ) (xs : List Item) → some_true (verdicts xs needed) ≡ false → silenced_left (λ k x. false) n xs needed ≡ xs
items_same needed n [] e = refl
items_same needed n (x ∷ xs) e =
    let stays = left_false (is_dead x.kind (needed_at xs needed)) (some_true (verdicts xs needed)) e in
    let rest = items_same needed (suc n) xs (right_false (is_dead x.kind (needed_at xs needed)) (some_true (verdicts xs needed)) e) in
    (λ i. cond (stays i) (silenced_left (λ k y. false) (suc n) xs needed)
    (record x { kind = silenced (λ y. false) x.kind } ∷ silenced_left (λ k y. false) (suc n) xs needed))
    ∙ (λ i. record x { kind = silent_itself x.kind i } ∷ rest i)

items_left : (needed : Places) (xs : List Item) → some_true (verdicts xs needed) ≡ false → without_dead xs needed ≡ xs
items_left needed [] e = refl
items_left needed (x ∷ xs) e =
    let stays = left_false (is_dead x.kind (needed_at xs needed)) (some_true (verdicts xs needed)) e in
    let rest = items_left needed xs (right_false (is_dead x.kind (needed_at xs needed)) (some_true (verdicts xs needed)) e) in
    (λ i. cond (stays i) (without_dead xs needed) (x ∷ without_dead xs needed)) ∙ (λ i. x ∷ rest i)

pub blocks_same : (ends : Ends) (bs : List Block) → some_dead (map (verdicts_in ends) bs) ≡ false → map (silenced_block (λ p x. false) ends) bs ≡ bs
blocks_same ends [] e = refl
blocks_same ends (b ∷ bs) e =
    let items = items_same (ends b.id) 0 b.items (left_false (some_true (verdicts_in ends b)) (some_dead (map (verdicts_in ends) bs)) e) in
    let rest = blocks_same ends bs (right_false (some_true (verdicts_in ends b)) (some_dead (map (verdicts_in ends) bs)) e) in
    λ i. record { id = b.id; items = items i; source_end = b.source_end } ∷ rest i

blocks_left : (ends : Ends) (bs : List Block) → some_dead (map (verdicts_in ends) bs) ≡ false → map (thinned_block ends) bs ≡ bs
blocks_left ends [] e = refl
blocks_left ends (b ∷ bs) e =
    let items = items_left (ends b.id) b.items (left_false (some_true (verdicts_in ends b)) (some_dead (map (verdicts_in ends) bs)) e) in
    let rest = blocks_left ends bs (right_false (some_true (verdicts_in ends b)) (some_dead (map (verdicts_in ends) bs)) e) in
    λ i. record { id = b.id; items = items i; source_end = b.source_end } ∷ rest i

module _ (f : Function) (ends : Ends) (none : some_dead (map (verdicts_in ends) f.blocks) ≡ false) where
  never_dead : (p : Pos) → is_dead_at ends f p ≡ false
  never_dead p = by_blocks (from_block f.blocks p.block) refl where
    by_blocks : (bs : List Block) → from_block f.blocks p.block ≡ bs → is_dead_at ends f p ≡ false
    by_blocks [] e = ap (λ (bs : List Block). begins_dead (rest_in bs p.item) (ends p.block)) e
    by_blocks (b ∷ bs) e =
        let k = found_in f.blocks p.block b bs e in
        ap (λ (cs : List Block). begins_dead (rest_in cs p.item) (ends p.block)) e ∙
        (ap (λ (n : ℕ). begins_dead (drop p.item b.items) (ends n)) (sym k.1) ∙
        (begins_at b.items (ends b.id) p.item ∙ none_at (verdicts b.items (ends b.id)) p.item (none_in ends f.blocks b none k.0)))

  pub never_wrong : (x : Place) {p : Pos} → IsWrongAt ends f x p → ⊥
  never_wrong x (made p dead d edge) = let bad : true ≡ false = sym dead ∙ never_dead p in cc
  never_wrong x (on p w stays edge) = never_wrong x w

  pub loses_none : (at : Pos) (k : ItemKind) (o : Origin) (l : Loss) → LosesOf ends f at k o l → ⊥
  loses_none at (Code i (Some n)) o l (dead, e) = let bad : true ≡ false = sym dead ∙ never_dead at in cc
  loses_none at (Code i None) o l h = h
  loses_none at (Mark v (At r)) o l (w, e) = never_wrong _ w
  loses_none at (Mark v Nothing) o l h = h
  loses_none at (Mark v (Constant n)) o l h = h
  loses_none at (Mark v (Pair q)) o l h = h
  loses_none at (Phi (Some x) n) o l (w, e) = never_wrong x w
  loses_none at (Phi None n) o l h = h

-- ---- something is dead

abbrev code_in : List Item → ℕ
code_in xs = count_by (λ (i : Item). is_code i.kind) xs

code_first : (x : Item) (xs : List Item) → code_in (x ∷ xs) ≡ cond (is_code x.kind) 1 0 + code_in xs
code_first x xs = sum_by-cons (λ (y : Item). cond (is_code y.kind) 1 0) x xs

code_both : (xs ys : List Item) → code_in (xs ++ ys) ≡ code_in xs + code_in ys
code_both xs ys = sum_by-append (λ (y : Item). cond (is_code y.kind) 1 0) xs ys

no_more : (wrong : ℕ → Places) (needed : Places) (n : ℕ) (xs : List Item) → code_in (silenced_left wrong n xs needed) ≤ code_in xs
no_more wrong needed n xs = count_left (λ (i : Item). is_code i.kind) quiet_code (left_of wrong n xs needed)

pub dead_is_code : (k : ItemKind) (needed : Places) → is_dead k needed ≡ true → is_code k ≡ true
dead_is_code (Code i n) needed e = refl
dead_is_code (Mark v m) needed e = cc
dead_is_code (Phi p n) needed e = cc

less : (wrong : ℕ → Places) (needed : Places) (n : ℕ) (xs : List Item) → some_true (verdicts xs needed) ≡ true →
    code_in (silenced_left wrong n xs needed) < code_in xs
less wrong needed n [] e = absurd cc
less wrong needed n (x ∷ xs) e =
    by_test (is_dead x.kind (needed_at xs needed)) refl e (no_more wrong needed (suc n) xs) (less wrong needed (suc n) xs) where
      by_test : (z : Bool) → is_dead x.kind (needed_at xs needed) ≡ z → (z || some_true (verdicts xs needed)) ≡ true →
          code_in (silenced_left wrong (suc n) xs needed) ≤ code_in xs →
          (some_true (verdicts xs needed) ≡ true → code_in (silenced_left wrong (suc n) xs needed) < code_in xs) →
          code_in (cond z (silenced_left wrong (suc n) xs needed) (quiet (wrong n) x ∷ silenced_left wrong (suc n) xs needed)) < code_in (x ∷ xs)
      by_test true is e le more =
          let a = code_first x xs in
          let b : ◌≡◌ {A = ℕ} (cond (is_code x.kind) 1 0) 1 = ap (λ (z : Bool). cond z 1 0) (dead_is_code x.kind (needed_at xs needed) is) in
          omega (arith, le, a, b)
      by_test false is e le more =
          let lt : code_in (silenced_left wrong (suc n) xs needed) < code_in xs = more e in
          let a = code_first x xs in
          let b = code_first (quiet (wrong n) x) (silenced_left wrong (suc n) xs needed) in
          let c : ◌≡◌ {A = ℕ} (cond (is_code (quiet (wrong n) x).kind) 1 0) (cond (is_code x.kind) 1 0) =
          ap (λ (z : Bool). cond z 1 0) (quiet_code (wrong n) x) in
          omega (arith, lt, a, b, c)

module _ (wrong : Pos → Places) (ends : Ends) where
  abbrev out : Block → Block
  out = silenced_block wrong ends

  all_no_more : (bs : List Block) → code_in (items_of (map out bs)) ≤ code_in (items_of bs)
  all_no_more bs = count_left (λ (i : Item). is_code i.kind) quiet_code (left_items wrong ends bs)

  all_less : (bs : List Block) → some_dead (map (verdicts_in ends) bs) ≡ true → code_in (items_of (map out bs)) < code_in (items_of bs)
  all_less [] e = absurd cc
  all_less (b ∷ bs) e = by_test (some_true (verdicts_in ends b)) refl e (all_less bs) where
    rest : code_in (items_of (map out bs)) ≤ code_in (items_of bs)
    rest = all_no_more bs

    new : code_in ((out b).items ++ items_of (map out bs)) ≡ code_in (out b).items + code_in (items_of (map out bs))
    new = code_both (out b).items (items_of (map out bs))

    old : code_in (b.items ++ items_of bs) ≡ code_in b.items + code_in (items_of bs)
    old = code_both b.items (items_of bs)

    by_test : (z : Bool) → some_true (verdicts_in ends b) ≡ z → (z || some_dead (map (verdicts_in ends) bs)) ≡ true →
        (some_dead (map (verdicts_in ends) bs) ≡ true → code_in (items_of (map out bs)) < code_in (items_of bs)) →
        code_in ((out b).items ++ items_of (map out bs)) < code_in (b.items ++ items_of bs)
    by_test true t h later =
        let here : code_in (out b).items < code_in b.items = less (λ n. wrong (pos_in b.id n)) (ends b.id) 0 b.items t in
        let r = rest in
        let n = new in
        let o = old in
        omega (arith, here, r, n, o)
    by_test false t h later =
        let here : code_in (out b).items ≤ code_in b.items = no_more (λ n. wrong (pos_in b.id n)) (ends b.id) 0 b.items in
        let more : code_in (items_of (map out bs)) < code_in (items_of bs) = later h in
        let n = new in
        let o = old in
        omega (arith, here, more, n, o)

-- ---- a round

module _ (f : Function) (dead : List (List Bool)) (judged : AreJudged f dead) where
  dead_is : (z : Bool) → some_dead dead ≡ z → some_dead (map (verdicts_in judged.ends) f.blocks) ≡ z
  dead_is z e = ap some_dead (sym judged.verdicts_are) ∙ e

  pub settled : some_dead dead ≡ false → IsRound f f
  settled e =
      let none = dead_is false e in
      record {
        ends = judged.ends;
        live = judged.live;
        thins = (let same = sym (blocks_left judged.ends f.blocks none) in λ i. record f { blocks = same i });
      }

module _ (f : Function) (dead : List (List Bool)) (judged : AreJudged f dead) (forms : AllItems (λ i. HasForm i.kind) f.blocks) where
  pub none_taken : some_dead dead ≡ false → IsTakenOut f f [] false
  none_taken e =
      let none = dead_is f dead judged false e in
      let ends = judged.ends in
      record {
        ends = ends;
        forms = forms;
        wrong = λ p x. false;
        live = judged.live;
        exact = λ p x. (λ h. absurd cc, λ w. absurd (never_wrong f ends none x w));
        out = (let same = sym (blocks_same ends f.blocks none) in λ i. record f { blocks = same i });
        told = λ l. (λ h. absurd (let lt = h.1 in omega (arith, lt)), λ h. absurd (loses_none f ends none h.0 h.1.0.kind h.1.0.origin l h.1.2));
        fewer = λ h. cc;
        same = λ h. refl;
        some = sym none;
        over = λ h. settled f dead judged e;
      }

  module _ (sound : IsSound f) (w : StaleSets) (sets : AreStaleSets f dead w) (left : List Block) (before after : List Loss)
      (left_is : (ends : Ends) → AreVerdicts ends f dead → left ≡ map (silenced_block (wrong_of ends f (starts_of w)) ends) f.blocks)
      (lost_is : (ends : Ends) → AreVerdicts ends f dead → after ≡ before ++ lost_in (wrong_of ends f (starts_of w)) ends f.blocks) where
    pub was_taken : (g : Function) → g ≡ record f { blocks = left } → some_dead dead ≡ true →
        (here : List Loss) × (after ≡ before ++ here) × IsTakenOut f g here true
    was_taken g is e =
        let ends = judged.ends in
        let wrong : Pos → Places = wrong_of ends f (starts_of w) in
        let blocks = left_is ends judged.verdicts_are in
        let out : g ≡ taken_out wrong ends f = is ∙ (λ i. record f { blocks = blocks i }) in
        let fewer : code_in (items_of (map (silenced_block wrong ends) f.blocks)) < code_in (items_of f.blocks) =
        all_less wrong ends f.blocks (dead_is f dead judged true e) in (
          lost_in wrong ends f.blocks,
          lost_is ends judged.verdicts_are,
          record {
            ends = ends;
            forms = forms;
            wrong = wrong;
            live = judged.live;
            exact = sets.exact ends judged.verdicts_are;
            out = out;
            told = all_told f sound ends wrong (sets.exact ends judged.verdicts_are);
            fewer = λ h. subst (λ (z : Function). code_in (items_of z.blocks) < code_in (items_of f.blocks)) (sym out) fewer;
            same = λ h. cc;
            some = sym (dead_is f dead judged true e);
            over = λ h. cc;
          },
        )
