-- A function without virtual registers is scanned as it is, and code without any leaves none to a slot.
use Rattle.std.proofs.Common.{◌≡◌, ◌⊎◌, inl, inr, ◌↔◌, ℕ, ◌+◌, ◌<◌, ◌≤◌, List, [], ◌∷◌, ◌++◌, map, length, Option, Some, None, Bool, true, false, max}
use Rattle.std.proofs.Common.{AllPairs, Contains, refl, sym, ap, ◌∙◌, subst, arith}
use Rattle.std.specs.Prelude.{All}
use Rattle.std.proofs.lemmas.List.Elements.{All-contains, All-head, All-tail}
use Rattle.std.proofs.lemmas.List.Sorted.{IsPermutation-refl}
use Rattle.rv64_instr.specs.declared.operand.Operand.{Operand}
use Rattle.rv64_instr.specs.declared.operand.Operand.TheVariants.{Def, Use, ImplicitDef, ImplicitUse}
use Rattle.rv64_instr.specs.declared.place.Place.{Place}
use Rattle.rv64_instr.specs.declared.place.Place.TheVariants.{Register, Slot, Const}
use Rattle.mir_func.specs.declared.block.Block.{Block}
use Rattle.mir_func.specs.declared.debug_substitution.DebugSubstitution.{DebugSubstitution}
use Rattle.mir_func.specs.declared.item.Item.{Item}
use Rattle.mir_func.specs.declared.item.ItemKind.{ItemKind}
use Rattle.mir_func.specs.declared.item.ItemKind.TheVariants.{Code, Mark, Phi}
use Rattle.mir_func.specs.declared.position.Pos.{Pos}
use Rattle.mir_func.specs.declared.variable.MarkValue.{MarkValue}
use Rattle.mir_func.specs.declared.variable.MarkValue.TheVariants.{Nothing, Constant, At, Pair}
use Rattle.mir_func.specs.Function.{Function}
use Rattle.mir_func.specs.Graph.{Edge, block_start, program_of}
use Rattle.mir_func.specs.Resolve.{resolve}
use Rattle.mir_func.specs.Sound.{AllItems, HasForm}
use Rattle.mir_func.specs.SoundFrame.{IsPhysical, HasPhysical}
use Rattle.sem_mir.specs.Live.{Defines}
use Rattle.pass_trait.specs.declared.loss.Loss.{Loss}
use Rattle.pass_trait.specs.Causes.{AsksFor, Comes, begins, goes_on}
use Rattle.pass_trait.specs.Change.{change}
use Rattle.pass_trait.specs.Order.{IsInOrder}
use Rattle.pass_trait.specs.Rule.{StandsAt}
use Rattle.pass_trait.specs.Sizes.{greatest_number}
use Rattle.spill_code.specs.declared.spilling.SlotAssignment.{SlotAssignment}
use Rattle.spill_code.specs.Rewrite.{renamed_operand}
use Rattle.scan_pass.specs.spill_proof.Kept.{AreTaken}
use Rattle.scan_pass.specs.spill_proof.Whole.{spilled_by, where_spilled}
use Rattle.scan_pass.specs.scan_intervals.declared.interval.LiveInterval.{LiveInterval}
use Rattle.scan_pass.specs.scan_intervals.Intervals.{touches, AreIntervals}
use Rattle.scan_pass.specs.scan_intervals.Liveness.{Decides, at_starts}
use Rattle.scan_pass.specs.scan_intervals.Points.{CodePoint, points_of}
use Rattle.scan_pass.specs.scan_allocation.Allocation.{stays, assignments_of, given_unless, IsAllocation}
use Rattle.scan_pass.specs.scan_allocation.Coloring.{now}
use Rattle.scan_allot.specs.scan_liveness.Registers.{register_of, greatest_operand, greatest_of, greatest_in, greatest_register}
use Rattle.scan_allot.proofs.scan_liveness.Named.{fetched_item, up_to, live_most, of_most}
use Rattle.scan_allot.proofs.scan_liveness.Ordered.{are_intervals}
use Rattle.scan_allot.specs.Rewrite.{value_now, place_now, kind_now, items_now, blocks_now, allotted}
use Rattle.scan_allot.specs.Silence.{SetsAnother, IsSilent}
use Rattle.scan_allot.specs.Step.{DecidesSilence}
use Rattle.scan_allot.specs.Laws.{AreSilencedLosses}
use Rattle.scan_settle.specs.Settled.{IsSettledWithLosses}
use Rattle.scan_settle.specs.Choice.{stays as settling_stays, homes_unless, homes_left, settling_of, settled_whole}
use Rattle.scan_settle.specs.Rule.{AreLeft}
use Rattle.scan_pass.specs.Scanned.{IsScanned}
use Rattle.linear_scan.proofs.Decided.{liveness_test}

-- ---- numbers of registers

operand_low : (o : Operand) → IsPhysical o → register_of o < 32
operand_low (Def r) h = h
operand_low (Use r) h = h
operand_low (ImplicitDef r) h = h
operand_low (ImplicitUse r) h = h
operand_low _ h = omega arith

operands_low : (os : List Operand) → All IsPhysical os → greatest_operand os < 32
operands_low [] all = omega arith
operands_low (o ∷ os) all =
    let here = operand_low o (All-head IsPhysical o os all) in let rest = operands_low os (All-tail IsPhysical o os all) in omega (arith, here, rest)

kind_low : (k : ItemKind) → HasPhysical k → greatest_of k < 32
kind_low (Code i n) h = operands_low i.operands h
kind_low (Mark v m) h = omega arith
kind_low (Phi p n) h = omega arith

items_low : (is : List Item) → All (λ i. HasPhysical i.kind) is → greatest_in is < 32
items_low [] all = omega arith
items_low (i ∷ is) all =
    let here = kind_low i.kind (All-head (λ (x : Item). HasPhysical x.kind) i is all) in
    let rest = items_low is (All-tail (λ (x : Item). HasPhysical x.kind) i is all) in
    omega (arith, here, rest)

physical_low : (bs : List Block) → AllItems (λ i. HasPhysical i.kind) bs → greatest_register bs < 32
physical_low [] all = omega arith
physical_low (b ∷ bs) all =
    let here = items_low b.items (All-head (λ (c : Block). All (λ i. HasPhysical i.kind) c.items) b bs all) in
    let rest = physical_low bs (All-tail (λ (c : Block). All (λ i. HasPhysical i.kind) c.items) b bs all) in
    omega (arith, here, rest)

-- ---- no register is left to a slot

module _ (f : Function) (forms : AllItems (λ i. HasForm i.kind) f.blocks) (low : greatest_register f.blocks < 32) where
  untouched : (live : ℕ → ℕ → Bool) → Decides f live → (r : ℕ) → 32 ≤ r → (p : CodePoint) → Contains (points_of (at_starts live) f.blocks) p →
      touches r p ≡ false
  untouched live decides r le p c = by_test (touches r p) refl where
    most : touches r p ≡ true → r ≤ greatest_register f.blocks
    most = All-contains (λ (q : CodePoint). touches r q ≡ true → r ≤ greatest_register f.blocks) (points_of (at_starts live) f.blocks) p
        (of_most live (greatest_register f.blocks) r le
        (λ n h. live_most f.blocks (λ q. None) (greatest_register f.blocks) (up_to f.blocks forms) r le (block_start n)
        ((decides n r).0 h)) f.blocks (up_to f.blocks forms)) c

    by_test : (z : Bool) → touches r p ≡ z → touches r p ≡ false
    by_test false e = e
    by_test true e = let at_most = most e in absurd (omega (arith, at_most, low, le))

  no_intervals : (live : ℕ → ℕ → Bool) → Decides f live → AreIntervals (points_of (at_starts live) f.blocks) []
  no_intervals live decides =
      are_intervals (points_of (at_starts live) f.blocks) [] (λ k lt. absurd (omega (arith, lt)))
      (λ r le p c. untouched live decides r (omega (arith, le)) p c) (omega arith) [] (IsPermutation-refl [])
      (λ i j d lt inside. absurd (omega (arith, inside)))

  pub none_left : AreLeft f []
  none_left =
      let t = liveness_test f in record { live = t.live; decides = t.decides; are = no_intervals t.live t.decides }

-- ---- the step changes nothing

abbrev nothing : ℕ → Option ℕ
nothing r = None

abbrev never : Pos → ℕ → Bool
never p r = false

operand_same : (o : Operand) → renamed_operand (now nothing) (now nothing) o ≡ o
operand_same (Use r) = refl
operand_same (Def r) = refl
operand_same _ = refl

operands_same : (os : List Operand) → map (renamed_operand (now nothing) (now nothing)) os ≡ os
operands_same [] = refl
operands_same (o ∷ os) = let here = operand_same o in let rest = operands_same os in λ t. here t ∷ rest t

value_same : (m : MarkValue) → value_now nothing (λ r. false) m ≡ m
value_same Nothing = refl
value_same (Constant n) = refl
value_same (At r) = refl
value_same (Pair q) = refl

place_same : (p : Option Place) → place_now nothing (λ r. false) p ≡ p
place_same None = refl
place_same (Some (Register r)) = refl
place_same (Some (Slot n)) = refl
place_same (Some (Const c)) = refl

kind_same : (k : ItemKind) → kind_now nothing (λ r. false) k ≡ k
kind_same (Code i n) = let e = operands_same i.operands in λ t. Code (record i { operands = e t }) n
kind_same (Mark v m) = ap (Mark v) (value_same m)
kind_same (Phi p n) = ap (λ (q : Option Place). Phi q n) (place_same p)

items_same : (b n : ℕ) (is : List Item) → items_now nothing never b n is ≡ is
items_same b n [] = refl
items_same b n (i ∷ is) =
    let here = kind_same i.kind in
    let rest = items_same b (n + 1) is in
    λ t. record { kind = here t; origin = i.origin; loc = i.loc } ∷ rest t

blocks_same : (bs : List Block) → blocks_now nothing never bs ≡ bs
blocks_same [] = refl
blocks_same (b ∷ bs) =
    let here = items_same b.id 0 b.items in
    let rest = blocks_same bs in
    λ t. record { id = b.id; items = here t; source_end = b.source_end } ∷ rest t

allotted_same : (f : Function) → allotted nothing never f ≡ f
allotted_same f = let e = blocks_same f.blocks in λ t. record f { blocks = e t }

no_home : (z : Bool) → homes_unless z [] ≡ []
no_home true = refl
no_home false = refl

not_given : (z : Bool) (r : ℕ) → given_unless z [] r ≡ None
not_given true r = refl
not_given false r = refl

-- ---- the function

value_low : (r : ℕ) (k : ItemKind) → HasPhysical k → AsksFor (Register r) k → r < 32
value_low r (Mark v (At s)) h asks = let same : r ≡ s = cc in let lt : s < 32 = h in omega (arith, same, lt)
value_low r (Mark v Nothing) h asks = absurd asks
value_low r (Mark v (Constant n)) h asks = absurd asks
value_low r (Mark v (Pair q)) h asks = absurd asks
value_low r (Phi (Some (Register s)) k) h asks = let same : r ≡ s = cc in let lt : s < 32 = h in omega (arith, same, lt)
value_low r (Phi (Some (Slot n)) k) h asks = cc
value_low r (Phi (Some (Const c)) k) h asks = cc
value_low r (Phi None k) h asks = absurd asks
value_low r (Code i k) h asks = absurd asks

module _ (reserve : List ℕ) (f : Function) (subs : List DebugSubstitution) (forms : AllItems (λ i. HasForm i.kind) f.blocks)
    (physical : AllItems (λ i. HasPhysical i.kind) f.blocks) where
  allocation : IsAllocation reserve f nothing
  allocation =
      let t = liveness_test f in
      let points : List CodePoint = points_of (at_starts t.live) f.blocks in
      record {
        live = t.live;
        decides = t.decides;
        intervals = [];
        are = no_intervals f forms (physical_low f.blocks physical) t.live t.decides;
        is = λ i r. sym (not_given (stays f (assignments_of reserve points [] f)) r) i;
      }

  -- no register's place has another value
  not_overwritten : (r : ℕ) {at : Pos} → Comes (program_of false f.blocks (resolve subs))
      (λ q. (p : Pos) × SetsAnother (program_of false f.blocks (resolve subs)) nothing r p × Edge (program_of false f.blocks (resolve subs)) p q)
      (λ p. Defines ((program_of false f.blocks (resolve subs)).fetch p) (Register r)) at → ⊥
  not_overwritten r (begins b) =
      b.1.3 (subst (λ (s : ℕ). Defines ((program_of false f.blocks (resolve subs)).fetch b.0) (Register s)) b.1.1 b.1.2)
  not_overwritten r (goes_on c n e) = not_overwritten r c

  not_silent : (at : Pos) (i : Item) (r : ℕ) → StandsAt f at i → AsksFor (Register r) i.kind →
      IsSilent (program_of false f.blocks (resolve subs)) f nothing r at → ⊥
  not_silent at i r stands asks (inl (le, unnamed)) =
      let lt = value_low r i.kind (fetched_item (λ (x : Item). HasPhysical x.kind) f.blocks at.block at.item i physical stands) asks in
      omega (arith, le, lt)
  not_silent at i r stands asks (inr (inl (q, e, path))) = cc
  not_silent at i r stands asks (inr (inr over)) = not_overwritten r over

  abbrev mid : Function
  mid = allotted nothing never f

  no_homes : homes_left mid [] ≡ []
  no_homes = no_home (settling_stays mid [])

  pub unchanged : (losses : List Loss) → losses ≡ [] → IsScanned reserve f subs f losses
  unchanged losses e = record {
    given = nothing;
    allocation = allocation;
    silent = never;
    decides = λ at i r stands asks. (λ h. cc, λ h. absurd (not_silent at i r stands asks h));
    wrong = [];
    ordered = λ i j d lt inside. absurd (omega (arith, inside));
    silenced = λ l. (λ c. (let lt = c.1 in absurd (omega (arith, lt))), λ h. absurd (not_silent h.0 h.1.item h.1.register h.1.stands h.1.asks h.1.silent));
    intervals = [];
    left = subst (λ (g : Function). AreLeft g []) (sym (allotted_same f)) (none_left f forms (physical_low f.blocks physical));
    scratch = [];
    taken = subst (λ (hs : List SlotAssignment). AreTaken hs (settling_of mid []) mid.blocks []) (sym no_homes) refl;
    made = sym (allotted_same f) ∙
        ap (λ (hs : List SlotAssignment). where_spilled hs mid (spilled_by (settling_of mid []) [] (greatest_number mid subs + 1) mid)) (sym no_homes);
    are = e;
  }

-- where no register is left, the second step leaves the function as it is
pub none_settled : (f : Function) (subs : List DebugSubstitution) (intervals : List LiveInterval) (losses : List Loss) → intervals ≡ [] → losses ≡ [] →
    IsSettledWithLosses intervals f subs f losses
none_settled f subs intervals losses none e =
    subst (λ (is : List LiveInterval). IsSettledWithLosses is f subs f losses) (sym none)
    (subst (λ (ls : List Loss). IsSettledWithLosses [] f subs f ls) (sym e) (record {
      made = ap (λ (hs : List SlotAssignment). where_spilled hs f (spilled_by (settling_of f []) [] (greatest_number f subs + 1) f)) (sym no_homes_left);
      taken = subst (λ (hs : List SlotAssignment). AreTaken hs (settling_of f []) f.blocks []) (sym no_homes_left) refl;
    })) where
      no_homes_left : homes_left f [] ≡ []
      no_homes_left = no_home (settling_stays f [])
