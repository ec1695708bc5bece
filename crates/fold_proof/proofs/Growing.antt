-- A folded function with its kills keeps its bounds.
use Rattle.std.proofs.Common.{◌≡◌, ◌⊎◌, ℕ, zero, suc, ◌+◌, ◌*◌, ◌≤◌, List, []}
use Rattle.std.proofs.Common.{◌∷◌, ◌++◌, map, length, count_by, All, Contains, Some, None, Bool}
use Rattle.std.proofs.Common.{true, false, cond, refl, sym, ap, ◌∙◌, subst, inl, inr, arith}
use Rattle.std.specs.List.{flat_map, sum_by}
use Rattle.std.proofs.lemmas.List.Sums.{sum_by-append}
use Rattle.std.proofs.lemmas.List.Elements.{All-nil, All-cons, All-head, All-tail}
use Rattle.std.proofs.lemmas.List.Elements.{All-weaker, All-set, Contains-append_left, Contains-append_right}
use Rattle.std.proofs.Math.Nat.{le-max_left, le-max_right, max-le, le_trans}
use Rattle.rv64_instr.specs.declared.op.Op.{Op}
use Rattle.rv64_instr.specs.declared.op.Op.TheVariants.{Branch, PseudoBr}
use Rattle.rv64_instr.specs.declared.operand.Operand.{Operand}
use Rattle.rv64_instr.specs.declared.operand.Operand.TheVariants.{Block as OfBlock}
use Rattle.rv64_instr.specs.Row.{Row, Branches, Jumps, row_of}
use Rattle.rv64_instr.specs.LocationEffects.{is_call}
use Rattle.mir_func.specs.declared.block.Block.{Block}
use Rattle.mir_func.specs.declared.debug_substitution.DebugSubstitution.{DebugSubstitution}
use Rattle.mir_func.specs.declared.item.Item.{Item}
use Rattle.mir_func.specs.declared.item.ItemKind.{ItemKind}
use Rattle.mir_func.specs.declared.item.ItemKind.TheVariants.{Code, Mark, Phi}
use Rattle.mir_func.specs.declared.location.Loc.{Loc}
use Rattle.mir_func.specs.declared.variable.MarkValue.TheVariants.{Nothing}
use Rattle.mir_func.specs.Exits.{row_exit, exit_of}
use Rattle.mir_func.specs.Function.{Function}
use Rattle.mir_func.specs.Limits.{MAX_BLOCKS, MAX_SLOTS}
use Rattle.mir_func.specs.Sound.{AreApart, ids_of, items_of, EndsWell, Closes, LastCloses, IsSound}
use Rattle.mir_func.specs.SoundFrame.{IsPhysical as OperandIsPhysical, HasPhysical}
use Rattle.mir_func.specs.Calls.{is_call_kind}
use Rattle.sem_mir.specs.Align.{is_code}
use Rattle.pass_trait.specs.Change.{change}
use Rattle.pass_trait.specs.Sizes.{greatest, most_numbers, numbers_of, KeepsSizes}
use Rattle.fold_targets.specs.Leads.{first_id}
use Rattle.fold_rule.specs.Turned.{aimed, to_block, inverse_to, with_code}
use Rattle.fold_rule.specs.Rule.{folded_block, staying, folded_blocks}
use Rattle.fold_rule_proof.proofs.Rows.{Leads}
use Rattle.fold_rule_proof.proofs.Blocks.{apart_folded}
use Rattle.fold_rule_proof.specs.Kills.{kill_by, kills, with_kills, IsFoldedWithKills}
use Rattle.fold_rule_proof.proofs.Kills.{IsKillKind, IsKill, each_kill, ComesFrom, each_from}
use Rattle.fold_proof.proofs.Folding.{code_leads}
use Rattle.fold_proof.proofs.Placed.{made}
use Rattle.fold_proof.specs.Sizes.{FoldedKeepsSizes}
use Rattle.fold_proof.proofs.Weights.{sum_first, anew_weighs}
use Rattle.fold_proof.proofs.Gone.{gone_items, all_kills}
use Rattle.fold_proof.proofs.Holding.{blocks_hold}

-- ---- what items weigh, block by block

sum_two : (w : Item → ℕ) (xs ys : List Item) → sum_by w (xs ++ ys) ≡ sum_by w xs + sum_by w ys
sum_two w xs ys = sum_by-append w xs ys

length_sum : (xs : List Item) → length xs ≡ sum_by (λ i. 1) xs
length_sum [] = refl
length_sum (x ∷ xs) = let a = sum_first (λ (i : Item). 1) x xs in let b = length_sum xs in omega (arith, a, b)

module _ (w : Item → ℕ) (k : ℕ) (ends_weigh : (x : Item) → Leads (exit_of x.kind) → w x ≡ k) (end : ℕ → ℕ) (stays was : ℕ → Bool) (old : List Block) where
  -- the weight of the kills of blocks
  abbrev killed : List Block → ℕ
  killed bs = sum_by (λ b. cond (stays b.id) (sum_by w (kills end was old b.id)) 0) bs

  -- what a jump for each block weighs
  abbrev pub extra : List Block → ℕ
  extra bs = sum_by (λ (b : Block). k) bs

  -- the weight of the items of blocks that stay
  abbrev kept : List Block → ℕ
  kept bs = sum_by (λ b. cond (stays b.id) (sum_by w b.items) 0) bs

  abbrev pub Last : List Block → Type 0
  Last bs = (bs ≡ []) ⊎ LastCloses bs

  closing : (b : Block) (bs : List Block) → Last (b ∷ bs) → LastCloses (b ∷ bs)
  closing b bs (inl e) = cc
  closing b bs (inr l) = l

  tail_of : (b : Block) (bs : List Block) → LastCloses (b ∷ bs) → Last bs
  tail_of b [] l = inl refl
  tail_of b (d ∷ ds) l = inr l

  onto : (b : Block) (bs : List Block) → LastCloses (b ∷ bs) → first_id bs ≡ None → Closes b.items
  onto b [] l e = l
  onto b (d ∷ ds) l e = cc

  pub made_weigh : (bs : List Block) → All (λ (b : Block). EndsWell b.items) bs → Last bs →
      sum_by w (items_of (made end stays was old bs)) ≤ killed bs + kept bs + extra bs
  made_weigh [] ends last = omega arith
  made_weigh (b ∷ bs) ends last =
      let rest = made_weigh bs (All-tail (λ (b : Block). EndsWell b.items) b bs ends) (tail_of b bs (closing b bs last)) in
      let a = sum_first (λ (d : Block). cond (stays d.id) (sum_by w (kills end was old d.id)) 0) b bs in
      let d = sum_first (λ (d : Block). cond (stays d.id) (sum_by w d.items) 0) b bs in
      let n = sum_first (λ (d : Block). k) b bs in
      by_test (stays b.id) rest a d n where
        fb : Block
        fb = folded_block end (first_id (staying stays bs)) (first_id bs) b

        by_test : (z : Bool) → sum_by w (items_of (made end stays was old bs)) ≤ killed bs + kept bs + extra bs →
            killed (b ∷ bs) ≡ cond z (sum_by w (kills end was old b.id)) 0 + killed bs → kept (b ∷ bs) ≡ cond z (sum_by w b.items) 0 + kept bs →
            extra (b ∷ bs) ≡ k + extra bs →
            sum_by w (items_of (map (with_kills end was old) (cond z (fb ∷ folded_blocks end stays bs) (folded_blocks end stays bs)))) ≤
            killed (b ∷ bs) + kept (b ∷ bs) + extra (b ∷ bs)
        by_test true rest a d n =
            let one = anew_weighs w k ends_weigh end (first_id (staying stays bs)) (first_id bs) (record { block = b.id; item = b.source_end }) b.items
            (All-head (λ (b : Block). EndsWell b.items) b bs ends) (onto b bs (closing b bs last)) in
            let both = sum_two w (kills end was old b.id) fb.items in
            let all = sum_two w (kills end was old b.id ++ fb.items) (items_of (made end stays was old bs)) in
            omega (arith, rest, a, d, n, one, both, all)
        by_test false rest a d n = omega (arith, rest, a, d, n)

  pub kept_weigh : (bs : List Block) → kept bs + sum_by (λ b. cond (stays b.id) 0 (sum_by w b.items)) bs ≡ sum_by w (items_of bs)
  kept_weigh [] = refl
  kept_weigh (b ∷ bs) =
      let a = sum_first (λ (d : Block). cond (stays d.id) (sum_by w d.items) 0) b bs in
      let g = sum_first (λ (d : Block). cond (stays d.id) 0 (sum_by w d.items)) b bs in
      let both = sum_two w b.items (items_of bs) in
      let rest = kept_weigh bs in
      by_test (stays b.id) a g both rest where
        by_test : (z : Bool) → kept (b ∷ bs) ≡ cond z (sum_by w b.items) 0 + kept bs →
            sum_by (λ d. cond (stays d.id) 0 (sum_by w d.items)) (b ∷ bs) ≡ cond z 0 (sum_by w b.items) + sum_by (λ d. cond (stays d.id) 0
            (sum_by w d.items)) bs →
            sum_by w (items_of (b ∷ bs)) ≡ sum_by w b.items + sum_by w (items_of bs) →
            kept bs + sum_by (λ d. cond (stays d.id) 0 (sum_by w d.items)) bs ≡ sum_by w (items_of bs) →
            kept (b ∷ bs) + sum_by (λ d. cond (stays d.id) 0 (sum_by w d.items)) (b ∷ bs) ≡ sum_by w (items_of (b ∷ bs))
        by_test true a g both rest = omega (arith, a, g, both, rest)
        by_test false a g both rest = omega (arith, a, g, both, rest)

  -- kills are counted by the numbers of the blocks that stay
  pub killed_numbers : (bs : List Block) → killed bs ≡ sum_by (λ e. sum_by w (kills end was old e)) (ids_of (folded_blocks end stays bs))
  killed_numbers [] = refl
  killed_numbers (b ∷ bs) =
      let a = sum_first (λ (d : Block). cond (stays d.id) (sum_by w (kills end was old d.id)) 0) b bs in
      by_test (stays b.id) a (killed_numbers bs) where
        fb : Block
        fb = folded_block end (first_id (staying stays bs)) (first_id bs) b

        by_test : (z : Bool) → killed (b ∷ bs) ≡ cond z (sum_by w (kills end was old b.id)) 0 + killed bs →
            killed bs ≡ sum_by (λ e. sum_by w (kills end was old e)) (ids_of (folded_blocks end stays bs)) →
            killed (b ∷ bs) ≡ sum_by (λ e. sum_by w (kills end was old e)) (ids_of (cond z (fb ∷ folded_blocks end stays bs) (folded_blocks end stays bs)))
        by_test true a rest =
            let d = sum_first (λ (e : ℕ). sum_by w (kills end was old e)) b.id (ids_of (folded_blocks end stays bs)) in omega (arith, a, rest, d)
        by_test false a rest = omega (arith, a, rest)

abbrev weight : Bool → ℕ
weight z = cond z 1 0

pub all_of : {X : Type 0} (P : X → Type 0) (xs : List X) → ((x : X) → Contains xs x → P x) → All P xs
all_of P [] h = All-nil P
all_of P (x ∷ xs) h = All-cons P x xs (h x (0, omega arith, refl)) (all_of P xs (λ y w. h y (suc w.0, (let lt = w.1 in omega (arith, lt)), w.2)))

block_count : (bs : List Block) → sum_by (λ (b : Block). 1) bs ≡ length bs
block_count [] = refl
block_count (b ∷ bs) = let a = sum_first (λ (d : Block). 1) b bs in let m = block_count bs in omega (arith, a, m)

no_blocks : (bs : List Block) → sum_by (λ (b : Block). 0) bs ≡ 0
no_blocks [] = refl
no_blocks (b ∷ bs) = let a = sum_first (λ (d : Block). 0) b bs in let m = no_blocks bs in omega (arith, a, m)

-- ---- kills weigh nothing where only code does

kill_no_code : (k : ItemKind) → IsKillKind k → is_code k ≡ false
kill_no_code (Mark v m) h = refl
kill_no_code (Phi p n) h = refl
kill_no_code (Code i n) h = absurd h

kill_no_call : (k : ItemKind) → IsKillKind k → is_call_kind k ≡ false
kill_no_call (Mark v m) h = refl
kill_no_call (Phi p n) h = refl
kill_no_call (Code i n) h = absurd h

no_weight : (w : Item → ℕ) (xs : List Item) → All (λ (i : Item). w i ≡ 0) xs → sum_by w xs ≡ 0
no_weight w [] h = refl
no_weight w (x ∷ xs) h =
    let a = sum_first w x xs in
    let b = All-head (λ (i : Item). w i ≡ 0) x xs h in
    let d = no_weight w xs (All-tail (λ (i : Item). w i ≡ 0) x xs h) in
    omega (arith, a, b, d)

no_sum : (w : ℕ → ℕ) (ns : List ℕ) → ((n : ℕ) → w n ≡ 0) → sum_by w ns ≡ 0
no_sum w [] h = refl
no_sum w (n ∷ ns) h = let a = sum_first w n ns in let b = h n in let d = no_sum w ns h in omega (arith, a, b, d)

row_no_call : (r : Row) → Leads (row_exit r) → is_call r ≡ false
row_no_call (Branches op a b t) h = refl
row_no_call (Jumps t) h = refl
row_no_call _ h = absurd h

leads_no_call : (k : ItemKind) → Leads (exit_of k) → is_call_kind k ≡ false
leads_no_call (Code i n) h = row_no_call (row_of i) h
leads_no_call (Mark v m) h = refl
leads_no_call (Phi p n) h = refl

same_sum : (v w : Block → ℕ) (bs : List Block) → ((b : Block) → v b ≡ w b) → sum_by v bs ≡ sum_by w bs
same_sum v w [] h = refl
same_sum v w (b ∷ bs) h =
    let a = sum_first v b bs in let d = sum_first w b bs in let e = h b in let m = same_sum v w bs h in omega (arith, a, d, e, m)

same_numbers : (v w : ℕ → ℕ) (ns : List ℕ) → ((n : ℕ) → v n ≡ w n) → sum_by v ns ≡ sum_by w ns
same_numbers v w [] h = refl
same_numbers v w (n ∷ ns) h =
    let a = sum_first v n ns in let d = sum_first w n ns in let e = h n in let m = same_numbers v w ns h in omega (arith, a, d, e, m)

-- ---- registers and numbers

aimed_physical : (op : Op) (n : ℕ) (os : List Operand) → All OperandIsPhysical os → All OperandIsPhysical (aimed op n os)
aimed_physical (Branch op) n os h = All-set OperandIsPhysical os 2 (OfBlock n) tt h
aimed_physical PseudoBr n os h = All-set OperandIsPhysical os 0 (OfBlock n) tt h
aimed_physical _ n os h = h

sent_physical : (n : ℕ) (k : ItemKind) → HasPhysical k → HasPhysical (with_code (to_block n) k)
sent_physical n (Code i m) h = aimed_physical i.op n i.operands h
sent_physical n (Mark v m) h = h
sent_physical n (Phi p m) h = h

turned_physical : (n : ℕ) (k : ItemKind) → HasPhysical k → HasPhysical (with_code (inverse_to n) k)
turned_physical n (Code i m) h = aimed_physical i.op n i.operands h
turned_physical n (Mark v m) h = h
turned_physical n (Phi p m) h = h

kill_physical : (k : ItemKind) → IsKillKind k → HasPhysical k
kill_physical (Mark v Nothing) h = tt
kill_physical (Mark v _) h = absurd h
kill_physical (Phi None n) h = tt
kill_physical (Phi (Some p) n) h = absurd h
kill_physical (Code i n) h = absurd h

-- each number is one of these
abbrev Known : List ℕ → ItemKind → Type 0
Known ns k = (n : ℕ) → Contains (numbers_of k) n → Contains ns n

same_numbers_of : (h : Rattle.rv64_instr.specs.Instruction.Instruction → Rattle.rv64_instr.specs.Instruction.Instruction) (k : ItemKind) →
    numbers_of (with_code h k) ≡ numbers_of k
same_numbers_of h (Code i None) = refl
same_numbers_of h (Code i (Some n)) = refl
same_numbers_of h (Mark v m) = refl
same_numbers_of h (Phi p n) = refl

none_in : {P : Type 0} (n : ℕ) → Contains [] n → P
none_in n h = absurd (omega (arith, h.1))

known_changed : (ns : List ℕ) (h : Rattle.rv64_instr.specs.Instruction.Instruction → Rattle.rv64_instr.specs.Instruction.Instruction) (k : ItemKind) →
    Known ns k → Known ns (with_code h k)
known_changed ns h k known n inside = known n (subst (λ (ms : List ℕ). Contains ms n) (same_numbers_of h k) inside)

greatest_in : (ns : List ℕ) (n : ℕ) → Contains ns n → n ≤ greatest ns
greatest_in [] n h = none_in n h
greatest_in (m ∷ ns) n (zero, lt, e) = subst (λ (z : ℕ). z ≤ greatest (m ∷ ns)) e (le-max_left m (greatest ns))
greatest_in (m ∷ ns) n (suc i, lt, e) = le_trans (greatest_in ns n (i, omega (arith, lt), e)) (le-max_right m (greatest ns))

least_of : (ns : List ℕ) (b : ℕ) → ((n : ℕ) → Contains ns n → n ≤ b) → greatest ns ≤ b
least_of [] b h = omega arith
least_of (m ∷ ns) b h = max-le (h m (0, omega arith, refl)) (least_of ns b (λ n k. h n (suc k.0, (let lt = k.1 in omega (arith, lt)), k.2)))

greatest_le : (ns ms : List ℕ) → ((n : ℕ) → Contains ns n → Contains ms n) → greatest ns ≤ greatest ms
greatest_le ns ms h = least_of ns (greatest ms) (λ n k. greatest_in ms n (h n k))

in_append : (xs ys : List ℕ) (n : ℕ) → Contains (xs ++ ys) n → Contains xs n ⊎ Contains ys n
in_append [] ys n h = inr h
in_append (x ∷ xs) ys n (zero, lt, e) = inl (zero, omega arith, e)
in_append (x ∷ xs) ys n (suc i, lt, e) = elim (in_append xs ys n (i, omega (arith, lt), e)) [
  | inl k ↦ inl (suc k.0, (let l = k.1 in omega (arith, l)), k.2)
  | inr k ↦ inr k
]

item_numbers : (is : List Item) (ns : List ℕ) → All (λ (i : Item). Known ns i.kind) is → (n : ℕ) → Contains (flat_map (λ i. numbers_of i.kind) is) n →
    Contains ns n
item_numbers [] ns h n k = none_in n k
item_numbers (i ∷ is) ns h n k = elim (in_append (numbers_of i.kind) (flat_map (λ j. numbers_of j.kind) is) n k) as (λ z. Contains ns n) [
  | inl l ↦ All-head (λ (j : Item). Known ns j.kind) i is h n l
  | inr l ↦ item_numbers is ns (All-tail (λ (j : Item). Known ns j.kind) i is h) n l
]

all_items : (P : Item → Type 0) (bs : List Block) → All (λ (b : Block). All P b.items) bs → All P (items_of bs)
all_items P [] h = All-nil P
all_items P (b ∷ bs) h =
    Rattle.std.proofs.lemmas.List.Elements.All-append P b.items (items_of bs) (All-head (λ (b : Block). All P b.items) b bs h)
    (all_items P bs (All-tail (λ (b : Block). All P b.items) b bs h))

-- an item's numbers are among those of all
own_numbers : (is : List Item) (i : Item) → Contains is i → Known (flat_map (λ j. numbers_of j.kind) is) i.kind
own_numbers [] i (k, lt, e) n h = absurd (omega (arith, lt))
own_numbers (j ∷ is) i (zero, lt, e) n h =
    Contains-append_left (numbers_of j.kind) (flat_map (λ j. numbers_of j.kind) is) n (subst (λ (z : Item). Contains (numbers_of z.kind) n) (sym e) h)
own_numbers (j ∷ is) i (suc k, lt, e) n h =
    Contains-append_right (numbers_of j.kind) (flat_map (λ j. numbers_of j.kind) is) n (own_numbers is i (k, omega (arith, lt), e) n h)

in_items : (bs : List Block) (b : Block) (x : Item) → Contains bs b → Contains b.items x → Contains (items_of bs) x
in_items = Rattle.fold_rule_proof.proofs.KillSound.in_items

module _ (f g : Function) (subs : List DebugSubstitution) (sound : IsSound f) (h : IsFoldedWithKills f g) where
  abbrev old : List Block
  old = f.blocks

  abbrev end : ℕ → ℕ
  end = h.folded.end

  abbrev stays : ℕ → Bool
  stays = h.folded.stays

  abbrev was : ℕ → Bool
  was = h.was

  abbrev made_all : List Block
  made_all = made end stays was old old

  abbrev ids : List ℕ
  ids = ids_of (folded_blocks end stays old)

  apart : AreApart ids
  apart = apart_folded end stays old sound.blocks_apart

  few : length old ≤ MAX_BLOCKS
  few = sound.few_blocks

  code_weight : (x : Item) → Leads (exit_of x.kind) → weight (is_code x.kind) ≡ 1
  code_weight x leads = ap weight (code_leads x.kind leads)

  call_weight : (x : Item) → Leads (exit_of x.kind) → weight (is_call_kind x.kind) ≡ 0
  call_weight x leads = ap weight (leads_no_call x.kind leads)

  items_made : length (items_of made_all) ≤ length (items_of old) + length old
  items_made =
      let one : Item → ℕ = λ i. 1 in
      let a = made_weigh one 1 (λ x leads. refl) end stays was old old sound.ends (inr sound.last) in
      let b = kept_weigh one 1 (λ x leads. refl) end stays was old old in
      let d = killed_numbers one 1 (λ x leads. refl) end stays was old old in
      let e = same_numbers (λ n. sum_by one (kills end was old n)) (λ n. length (kills end was old n)) ids (λ n. sym (length_sum (kills end was old n))) in
      let k = all_kills f g subs sound h ids apart in
      let m = same_sum (gone_items f g subs sound h) (λ b. cond (stays b.id) 0 (sum_by one b.items)) old
      (λ b. ap (λ (z : ℕ). cond (stays b.id) 0 z) (length_sum b.items)) in
      let s = length_sum (items_of made_all) in
      let t = length_sum (items_of old) in
      let n = block_count old in
      omega (arith, a, b, d, e, k, m, s, t, n)

  code_made : count_by (λ i. is_code i.kind) (items_of made_all) ≤ count_by (λ i. is_code i.kind) (items_of old) + length old
  code_made =
      let w : Item → ℕ = λ i. weight (is_code i.kind) in
      let a = made_weigh w 1 code_weight end stays was old old sound.ends (inr sound.last) in
      let b = kept_weigh w 1 code_weight end stays was old old in
      let d = killed_numbers w 1 code_weight end stays was old old in
      let e = no_sum (λ n. sum_by w (kills end was old n)) ids (λ n. no_weight w (kills end was old n)
      (All-weaker (IsKill n) (λ (i : Item). w i ≡ 0) (λ i k. ap weight (kill_no_code i.kind k.kind)) (kills end was old n)
      (each_kill end was old n))) in
      let n = block_count old in
      omega (arith, a, b, d, e, n)

  calls_made : count_by (λ i. is_call_kind i.kind) (items_of made_all) ≤ count_by (λ i. is_call_kind i.kind) (items_of old)
  calls_made =
      let w : Item → ℕ = λ i. weight (is_call_kind i.kind) in
      let a = made_weigh w 0 call_weight end stays was old old sound.ends (inr sound.last) in
      let b = kept_weigh w 0 call_weight end stays was old old in
      let d = killed_numbers w 0 call_weight end stays was old old in
      let e = no_sum (λ n. sum_by w (kills end was old n)) ids (λ n. no_weight w (kills end was old n)
      (All-weaker (IsKill n) (λ (i : Item). w i ≡ 0) (λ i k. ap weight (kill_no_call i.kind k.kind)) (kills end was old n)
      (each_kill end was old n))) in
      let z = no_blocks old in
      omega (arith, a, b, d, e, z)

  physical_made : All (λ (b : Block). All (λ (i : Item). HasPhysical i.kind) b.items) old →
      All (λ (b : Block). All (λ (i : Item). HasPhysical i.kind) b.items) made_all
  physical_made all =
      blocks_hold HasPhysical sent_physical turned_physical (λ n. All-cons OperandIsPhysical (OfBlock n) [] tt (All-nil OperandIsPhysical)) end stays was old
      (λ e. All-weaker (IsKill e) (λ (i : Item). HasPhysical i.kind) (λ i k. kill_physical i.kind k.kind) (kills end was old e)
      (each_kill end was old e)) old all

  abbrev before : List ℕ
  before = flat_map (λ i. numbers_of i.kind) (items_of old)

  kill_known : (e : ℕ) (k : ItemKind) (l : Loc) (i : Item) → kill_by e k l ≡ Some i → Known before k → Known before i.kind
  kill_known e (Mark v m) l i q known = by_same _ q (λ n none. none_in n none) where
    by_same : (j : Item) → Some j ≡ Some i → Known before j.kind → Known before i.kind
    by_same j q none = let same : j ≡ i = cc in subst (λ (z : Item). Known before z.kind) same none
  kill_known e (Phi p k) l i q known = by_same _ q known where
    by_same : (j : Item) → Some j ≡ Some i → Known before j.kind → Known before i.kind
    by_same j q one = let same : j ≡ i = cc in subst (λ (z : Item). Known before z.kind) same one
  kill_known e (Code c k) l i q known = cc

  numbers_made : (n : ℕ) → Contains (flat_map (λ i. numbers_of i.kind) (items_of made_all)) n → Contains before n
  numbers_made = item_numbers (items_of made_all) before (all_items (λ (i : Item). Known before i.kind) made_all
      (blocks_hold (Known before) (λ n k known. known_changed before (to_block n) k known) (λ n k known. known_changed before (inverse_to n) k known)
      (λ n m none. none_in m none) end stays was old
      (λ e. All-weaker (ComesFrom end was old e) (λ (i : Item). Known before i.kind) (λ i w. kill_known e w.item.kind w.item.loc i w.kill
      (own_numbers (items_of old) w.item (in_items old w.block w.item w.member w.stood))) (kills end was old e) (each_from end was old e)) old
      own_all)) where
        own_all : All (λ (b : Block). All (λ (i : Item). Known before i.kind) b.items) old
        own_all = all_of (λ (b : Block). All (λ (i : Item). Known before i.kind) b.items) old (λ b member.
            all_of (λ (i : Item). Known before i.kind) b.items (λ i inside. own_numbers (items_of old) i (in_items old b i member inside)))

  abbrev entries : List ℕ
  entries = flat_map (λ s. s.src.number ∷ s.dst.number ∷ []) subs

  all_numbers : (n : ℕ) → Contains (flat_map (λ i. numbers_of i.kind) (items_of made_all) ++ entries) n → Contains (before ++ entries) n
  all_numbers n k = elim (in_append (flat_map (λ i. numbers_of i.kind) (items_of made_all)) entries n k) as (λ z. Contains (before ++ entries) n) [
    | inl l ↦ Contains-append_left before entries n (numbers_made n l)
    | inr l ↦ Contains-append_right before entries n l
  ]

  le_more : (n m : ℕ) → n ≤ n + m
  le_more n m = omega arith

  sizes_made : KeepsSizes 1 1 (change f subs (record f { blocks = made_all }) subs)
  sizes_made = record {
    items = (let a = items_made in let b = few in omega (arith, a, b));
    code = (let a = code_made in let b = few in omega (arith, a, b));
    calls = calls_made;
    physical = physical_made;
    numbers = le_trans (greatest_le (flat_map (λ i. numbers_of i.kind) (items_of made_all) ++ entries) (before ++ entries) all_numbers)
        (le_more (greatest (before ++ entries)) (most_numbers 1 1 f));
    slots = le_more (greatest f.slots) (MAX_SLOTS * 1);
  }

  made_is : g ≡ record f { blocks = made_all }
  made_is = h.killed ∙ (λ i. record f { blocks = map (with_kills end was old) (h.folded.blocks i) })

pub keeps_sizes : FoldedKeepsSizes
keeps_sizes f g subs sound h = subst (λ (z : Function). KeepsSizes 1 1 (change f subs z subs)) (sym (made_is f g subs sound h)) (sizes_made f g subs sound h)
