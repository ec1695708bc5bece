-- The lines of all blocks, and what stands in the blocks when copies that go have lost their numbers.
use Rattle.std.proofs.Common.{◌≡◌, ◌⊎◌, inl, inr, Contains, ℕ, zero, suc, List, [], ◌∷◌, ◌++◌, map, length, drop, get_or}
use Rattle.std.proofs.Common.{Some, Bool, true, false, cond, nat_eq, eq-eqb, ne_eqb, slice_get, append-nil, refl, sym, ap, ◌∙◌, subst, arith}
use Rattle.std.proofs.Math.Nat.{le_refl}
use Rattle.std.proofs.lemmas.Bool.{eqb-true}
use Rattle.std.proofs.lemmas.List.{append_assoc}
use Rattle.std.proofs.lemmas.Option.{slice_get_within}
use Rattle.mir_func.specs.declared.debug_substitution.DebugSubstitution.{DebugSubstitution}
use Rattle.mir_func.specs.declared.block.Block.{Block}
use Rattle.mir_func.specs.declared.item.Item.{Item}
use Rattle.mir_func.specs.Graph.{EndOfBlock, end_of, from_block}
use Rattle.mir_func.specs.Sound.{AreApart, ids_of}
use Rattle.sem_mir.proofs.Reading.{apart_tail}
use Rattle.pass_trait.specs.declared.loss.Loss.{Loss}
use Rattle.dce_round.specs.dce_rule.Dead.{Ends}
use Rattle.dce_round.proofs.dce_rule.Lists.{drop_all}
use Rattle.dce_round.specs.dce_analysis.Judge.{verdicts}
use Rattle.pass_salvage.specs.SalvageAction.{going_from}
use Rattle.dce_salvage.specs.SalvageBlocks.{BlocksSoFar, in_block, salvage_block, salvage_blocks}
use Rattle.dce_proof.specs.SalvageLedger.{Line, lines_down, lines_in}
use Rattle.dce_proof.proofs.Lines.{LinesAre, LineAt, lines_from, lines_more, all_now, Own, Done, down}

abbrev pub verdicts_of : Ends → List Block → List (List Bool)
verdicts_of ends bs = map (λ (b : Block). verdicts b.items (ends b.id)) bs

-- the lines of all blocks
abbrev pub all_lines : (dead : List (List Bool)) → List Block → BlocksSoFar → List (List Line)
all_lines dead [] a = []
all_lines dead (b ∷ bs) a =
    lines_down (going_from 0 (get_or dead 0 [])) (get_or dead 0 []) (length b.items) (in_block b (salvage_blocks (drop 1 dead) bs a)) ∷
    all_lines (drop 1 dead) bs a

-- what the blocks are then
pub data BlocksAre (subs : List DebugSubstitution) (ends : Ends) : List Block → List (List Line) → List Block → Type 0 where
  no_blocks : BlocksAre subs ends [] [] []
  and_block : {b c : Block} {ls : List Line} {bs cs : List Block} {lss : List (List Line)} → c.id ≡ b.id → c.source_end ≡ b.source_end → c.items ≡ all_now ls →
      LinesAre subs (ends b.id) b.items ls → BlocksAre subs ends bs lss cs → BlocksAre subs ends (b ∷ bs) (ls ∷ lss) (c ∷ cs)

drop_zero : {A : Type 0} (xs : List A) → drop 0 xs ≡ xs
drop_zero [] = refl
drop_zero (x ∷ xs) = refl

-- ---- one block

-- what is known of a block when it is done
pub record OneBlock (ends : Ends) (d : List Bool) (b : Block) (m : BlocksSoFar) : Type 0 where
  pub lines : LinesAre (salvage_block d b m).subs (ends b.id) b.items (lines_down (going_from 0 d) d (length b.items) (in_block b m))
  pub items : (salvage_block d b m).items ≡ all_now (lines_down (going_from 0 d) d (length b.items) (in_block b m))
  pub more : List DebugSubstitution
  pub grown : (salvage_block d b m).subs ≡ m.subs ++ more

block_done : (d : List Bool) (b : Block) (m : BlocksSoFar) → Done b.items d (length b.items) (in_block b m)
block_done d b m = down b.items d (length b.items) (in_block b m) (le_refl (length b.items)) (λ j x lt at. (x, at, inl refl))

pub one_block : (ends : Ends) (d : List Bool) (b : Block) (m : BlocksSoFar) → d ≡ verdicts b.items (ends b.id) → OneBlock ends d b m
one_block ends d b m is =
    let done = block_done d b m in
    let ls : List Line = lines_down (going_from 0 d) d (length b.items) (in_block b m) in
    record {
      lines = lines_from (salvage_block d b m).subs (ends b.id) b.items ls done.long
          (λ j x at. subst (λ (vs : List Bool). LineAt (salvage_block d b m).subs vs ls j x) is (done.lines j x (slice_get_within b.items j x at) at));
      items = sym done.now ∙ (λ t. all_now ls ++ drop_all b.items t) ∙ append-nil (all_now ls);
      more = done.more;
      grown = done.grown;
    }

-- ---- all blocks

pub blocks_are : (ends : Ends) (bs : List Block) (ds : List (List Bool)) (a : BlocksSoFar) → ds ≡ verdicts_of ends bs → a.blocks ≡ [] →
    (final more : List DebugSubstitution) → final ≡ (salvage_blocks ds bs a).subs ++ more →
    BlocksAre final ends bs (all_lines ds bs a) (salvage_blocks ds bs a).blocks
blocks_are ends [] ds a e none final more is = subst (λ (cs : List Block). BlocksAre final ends [] [] cs) (sym none) no_blocks
blocks_are ends (b ∷ bs) ds a e none final more is =
    let d : List Bool = get_or ds 0 [] in
    let m : BlocksSoFar = salvage_blocks (drop 1 ds) bs a in
    let one = one_block ends d b m (ap (λ (z : List (List Bool)). get_or z 0 []) e) in
    and_block refl refl one.items
    (subst (λ (es : List DebugSubstitution). LinesAre es (ends b.id) b.items (lines_down (going_from 0 d) d (length b.items) (in_block b m))) (sym is)
    (lines_more (salvage_block d b m).subs more (ends b.id) b.items (lines_down (going_from 0 d) d (length b.items) (in_block b m)) one.lines))
    (blocks_are ends bs (drop 1 ds) a (ap (drop 1) e ∙ drop_zero (verdicts_of ends bs)) none final (one.more ++ more)
    (is ∙ ap (λ (es : List DebugSubstitution). es ++ more) one.grown ∙ append_assoc m.subs one.more more))

pub subs_grow : (ends : Ends) (bs : List Block) (ds : List (List Bool)) (a : BlocksSoFar) → ds ≡ verdicts_of ends bs →
    (more : List DebugSubstitution) × ((salvage_blocks ds bs a).subs ≡ a.subs ++ more)
subs_grow ends [] ds a e = ([], sym (append-nil a.subs))
subs_grow ends (b ∷ bs) ds a e =
    let d : List Bool = get_or ds 0 [] in
    let m : BlocksSoFar = salvage_blocks (drop 1 ds) bs a in
    let one = one_block ends d b m (ap (λ (z : List (List Bool)). get_or z 0 []) e) in
    let rest = subs_grow ends bs (drop 1 ds) a (ap (drop 1) e ∙ drop_zero (verdicts_of ends bs)) in
    (rest.0 ++ one.more, one.grown ∙ ap (λ (es : List DebugSubstitution). es ++ one.more) rest.1 ∙ append_assoc a.subs rest.0 one.more)

-- ---- the ledger has the lines of each block

pub id_at : (bs : List Block) (j : ℕ) (b : Block) → slice_get bs j ≡ Some b → slice_get (ids_of bs) j ≡ Some b.id
id_at [] j b e = cc
id_at (x ∷ xs) zero b e = let same : x ≡ b = cc in ap (λ (z : Block). Some z.id) same
id_at (x ∷ xs) (suc j) b e = id_at xs j b e

pub lines_at : (bs : List Block) (ds : List (List Bool)) (a : BlocksSoFar) → AreApart (ids_of bs) → (j : ℕ) (b : Block) (ls : List Line) →
    slice_get bs j ≡ Some b → slice_get (all_lines ds bs a) j ≡ Some ls → lines_in ds bs a b.id ≡ ls
lines_at [] ds a apart j b ls at at' = cc
lines_at (x ∷ xs) ds a apart zero b ls at at' =
    let same : x ≡ b = cc in
    let here : List Line =
    lines_down (going_from 0 (get_or ds 0 [])) (get_or ds 0 []) (length x.items) (in_block x (salvage_blocks (drop 1 ds) xs a)) in
    let s : Some here ≡ Some ls = at' in
    let is : here ≡ ls = cc in
    ap (λ (z : Bool). cond z here (lines_in (drop 1 ds) xs a b.id)) (eq-eqb x.id b.id (ap (λ (z : Block). z.id) same)) ∙ is
lines_at (x ∷ xs) ds a apart (suc j) b ls at at' =
    let far : x.id ≡ b.id → ⊥ = λ same. (let e : zero ≡ suc j = apart zero (suc j) b.id (ap Some same) (id_at xs j b at) in omega (arith, e)) in
    ap (λ (z : Bool). cond z (lines_down (going_from 0 (get_or ds 0 [])) (get_or ds 0 []) (length x.items) (in_block x (salvage_blocks (drop 1 ds) xs a)))
    (lines_in (drop 1 ds) xs a b.id)) (ne_eqb x.id b.id far) ∙
    lines_at xs (drop 1 ds) a (apart_tail x.id (ids_of xs) apart) j b ls at at'

-- the blocks of one number, before and after, with their lines
pub data Found (subs : List DebugSubstitution) (ends : Ends) (n : ℕ) : List Block → List Line → List Block → Type 0 where
  nowhere : Found subs ends n [] [] []
  there : {b c : Block} {ls : List Line} {bs cs : List Block} → b.id ≡ n → c.source_end ≡ b.source_end → c.items ≡ all_now ls →
      LinesAre subs (ends n) b.items ls → ((k : ℕ) → end_of k cs ≡ end_of k bs) → Found subs ends n (b ∷ bs) ls (c ∷ cs)

same_ends : (subs : List DebugSubstitution) (ends : Ends) (bs cs : List Block) (lss : List (List Line)) → BlocksAre subs ends bs lss cs → (k : ℕ) →
    end_of k cs ≡ end_of k bs
same_ends subs ends bs cs lss no_blocks k = refl
same_ends subs ends (b ∷ bs) (c ∷ cs) (ls ∷ lss) (and_block id source_end items lines rest) k = ap (λ (n : ℕ). EndOfBlock k n) id

-- a ledger by its blocks
abbrev pub lines_for : List Block → List (List Line) → (n : ℕ) → List Line
lines_for [] lss n = []
lines_for (b ∷ bs) [] n = []
lines_for (b ∷ bs) (ls ∷ lss) n = cond (nat_eq b.id n) ls (lines_for bs lss n)

pub lines_for_is : (bs : List Block) (ds : List (List Bool)) (a : BlocksSoFar) (n : ℕ) → lines_for bs (all_lines ds bs a) n ≡ lines_in ds bs a n
lines_for_is [] ds a n = refl
lines_for_is (b ∷ bs) ds a n =
    ap (λ (ls : List Line). cond (nat_eq b.id n)
    (lines_down (going_from 0 (get_or ds 0 [])) (get_or ds 0 []) (length b.items) (in_block b (salvage_blocks (drop 1 ds) bs a))) ls)
    (lines_for_is bs (drop 1 ds) a n)

pub found_at : (subs : List DebugSubstitution) (ends : Ends) (bs cs : List Block) (lss : List (List Line)) → BlocksAre subs ends bs lss cs → (n : ℕ) →
    Found subs ends n (from_block bs n) (lines_for bs lss n) (from_block cs n)
found_at subs ends bs cs lss no_blocks n = nowhere
found_at subs ends (b ∷ bs) (c ∷ cs) (ls ∷ lss) (and_block id source_end items lines rest) n =
    by_test (nat_eq b.id n) refl (nat_eq c.id n) (ap (λ (k : ℕ). nat_eq k n) id) (found_at subs ends bs cs lss rest n) where
      by_test : (z : Bool) → nat_eq b.id n ≡ z → (w : Bool) → w ≡ nat_eq b.id n →
          Found subs ends n (from_block bs n) (lines_for bs lss n) (from_block cs n) →
          Found subs ends n (cond z (b ∷ bs) (from_block bs n)) (cond z ls (lines_for bs lss n)) (cond w (c ∷ cs) (from_block cs n))
      by_test true e true same rec =
          let id_is = eqb-true b.id n e in
          there id_is source_end items (subst (λ (k : ℕ). LinesAre subs (ends k) b.items ls) id_is lines) (same_ends subs ends bs cs lss rest)
      by_test false e false same rec = rec
      by_test true e false same rec = let bad : false ≡ true = same ∙ e in cc
      by_test false e true same rec = let bad : true ≡ false = same ∙ e in cc

-- ---- what is lost of copies

-- a copy of the blocks that sets its own source
abbrev pub OwnIn : List Block → List (List Line) → Loss → Type 0
OwnIn bs lss loss = (j : ℕ) × (b : Block) × (ls : List Line) × (n : ℕ) × (x : Item) × (l : Line) × (slice_get bs j ≡ Some b) ×
    (slice_get lss j ≡ Some ls) × (slice_get b.items n ≡ Some x) × (slice_get ls n ≡ Some l) × Own x l loss

own_later : (b : Block) (bs : List Block) (ls : List Line) (lss : List (List Line)) (loss : Loss) → OwnIn bs lss loss → OwnIn (b ∷ bs) (ls ∷ lss) loss
own_later b bs ls lss loss (j, c, ms, n, x, l, at, at', here, here', own) = (suc j, c, ms, n, x, l, at, at', here, here', own)

pub lost_there : (bs : List Block) (ds : List (List Bool)) (a : BlocksSoFar) (loss : Loss) → Contains (salvage_blocks ds bs a).lost loss →
    Contains a.lost loss ⊎ OwnIn bs (all_lines ds bs a) loss
lost_there [] ds a loss k = inl k
lost_there (b ∷ bs) ds a loss k =
    let d : List Bool = get_or ds 0 [] in
    let m : BlocksSoFar = salvage_blocks (drop 1 ds) bs a in
    let ls : List Line = lines_down (going_from 0 d) d (length b.items) (in_block b m) in
    elim (((block_done d b m).lost loss).0 k) [
      | inl old ↦ elim (lost_there bs (drop 1 ds) a loss old) [
        | inl older ↦ inl older
        | inr own ↦ inr (own_later b bs ls (all_lines (drop 1 ds) bs a) loss own)
      ]
      | inr w ↦ inr (0, b, ls, w.0, w.1, w.2, refl, refl, w.4, w.5, w.6)
    ]

pub there_lost : (bs : List Block) (ds : List (List Bool)) (a : BlocksSoFar) (loss : Loss) → OwnIn bs (all_lines ds bs a) loss →
    Contains (salvage_blocks ds bs a).lost loss
there_lost [] ds a loss (j, b, ls, n, x, l, at, at', here, here', own) = cc
there_lost (b ∷ bs) ds a loss (zero, c, ms, n, x, l, at, at', here, here', own) =
    let d : List Bool = get_or ds 0 [] in
    let m : BlocksSoFar = salvage_blocks (drop 1 ds) bs a in
    let ls : List Line = lines_down (going_from 0 d) d (length b.items) (in_block b m) in
    let s : Some b ≡ Some c = at in
    let same : c ≡ b = cc in
    let t : Some ls ≡ Some ms = at' in
    let is : ms ≡ ls = cc in
    let here_b : slice_get b.items n ≡ Some x = ap (λ (z : Block). slice_get z.items n) (sym same) ∙ here in
    ((block_done d b m).lost loss).1
    (inr (n, x, l, slice_get_within b.items n x here_b, here_b, ap (λ (z : List Line). slice_get z n) (sym is) ∙ here', own))
there_lost (b ∷ bs) ds a loss (suc j, c, ms, n, x, l, at, at', here, here', own) =
    let d : List Bool = get_or ds 0 [] in
    let m : BlocksSoFar = salvage_blocks (drop 1 ds) bs a in
    ((block_done d b m).lost loss).1 (inl (there_lost bs (drop 1 ds) a loss (j, c, ms, n, x, l, at, at', here, here', own)))
