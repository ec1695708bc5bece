-- A function without its copies is no larger, and gets at most a number for each item.
use Rattle.std.proofs.Common.{◌≡◌, ℕ, zero, suc, ◌+◌, ◌-◌, ◌*◌, ◌<◌, ◌≤◌, List, [], ◌∷◌, ◌++◌, map, length, All, count_by, Option, Some, None, Bool}
use Rattle.std.proofs.Common.{true, false}
use Rattle.std.proofs.Common.{cond, nat_eq, slice_get, eq-eqb, ne_eqb, eqb-true, length-append, refl, sym, ap, ◌∙◌, subst, arith}
use Rattle.std.specs.Prelude.{max}
use Rattle.std.specs.List.{flat_map}
use Rattle.std.proofs.lemmas.List.Elements.{All-nil, All-head, All-tail, All-map, All-weaker}
use Rattle.std.proofs.lemmas.List.Sums.{sum_by-cons}
use Rattle.std.proofs.lemmas.Grind.{flat_map-append}
use Rattle.std.proofs.Math.Nat.{le-max_left, le-max_right, max-le, le_trans, le_refl}
use Rattle.rv64_instr.specs.declared.operand.Operand.{Operand}
use Rattle.rv64_instr.specs.declared.operand.Operand.TheVariants.{Def, Use}
use Rattle.rv64_instr.specs.Instruction.{Instruction}
use Rattle.rv64_instr.specs.Row.{Row, Moves, row_of}
use Rattle.mir_func.specs.declared.block.Block.{Block}
use Rattle.mir_func.specs.declared.debug_substitution.DebugSubstitution.{DebugSubstitution}
use Rattle.mir_func.specs.declared.item.Item.{Item}
use Rattle.mir_func.specs.declared.item.ItemKind.{ItemKind}
use Rattle.mir_func.specs.declared.item.ItemKind.TheVariants.{Code, Mark, Phi}
use Rattle.mir_func.specs.declared.location.Loc.{Loc}
use Rattle.mir_func.specs.declared.position.Origin.{Origin}
use Rattle.mir_func.specs.Function.{Function}
use Rattle.mir_func.specs.Limits.{MAX_BLOCKS}
use Rattle.mir_func.specs.Sound.{items_of}
use Rattle.mir_func.specs.SoundFrame.{IsPhysical, HasPhysical}
use Rattle.mir_func.specs.Calls.{is_call_kind}
use Rattle.sem_mir.specs.Align.{is_code}
use Rattle.pass_trait.specs.Change.{change}
use Rattle.pass_trait.specs.Rule.{item}
use Rattle.pass_trait.specs.Sizes.{greatest, numbers_of, greatest_number, item_count, KeepsSizes}
use Rattle.copyprop_block.specs.pass_salvage.declared.salvage_action.SalvageAction.{SalvageAction}
use Rattle.copyprop_block.specs.pass_salvage.declared.salvage_action.SalvageAction.TheVariants.{HasEntry, GetsEntry, GetsPhi}
use Rattle.copyprop_block.specs.pass_salvage.SalvageAction.{or_fresh, salvage_action}
use Rattle.copyprop_block.specs.pass_salvage.Salvage.{with_number, numbered_at, put_for, entry_for}
use Rattle.copyprop_block.proofs.pass_salvage.Chosen.{IsEntered, entered}
use Rattle.copyprop_block.specs.declared.roots.Root.{Root}
use Rattle.copyprop_block.specs.Roots.{root_of, renamed_operand, renamed, known_source, roots_after}
use Rattle.copyprop_block.specs.Copied.{SoFar, renamed_kind, roots_with, goes_by, by_fate, salvaged, next_item, over_items, at_block, BlocksSoFar, next_block}
use Rattle.copyprop_block.specs.Copied.{over_blocks}
use Rattle.copyprop_rule.specs.Rule.{begins, salvaged_function, salvaged_entries}
use Rattle.copyprop_rule.proofs.Over.{Stays, each_blocks, Tests, count_blocks}
use Rattle.rv64_instr.proofs.Moves.{moves_by}
use Rattle.copyprop_rule.proofs.Calls.{call_renamed}
use Rattle.copyprop_rule.proofs.Roots.{OfRoot, Reals, real_root, real_after}

-- ---- counts

all_pass : Tests (λ k. true)
all_pass = record { renamed = λ e k. refl; numbered = λ n k. refl; phi = λ i n s k. le_refl 1 }

code_passes : Tests is_code
code_passes = record { renamed = by_root; numbered = by_number; phi = λ i n s k. omega arith } where
  by_root : (e : List Root) (k : ItemKind) → is_code (renamed_kind e k) ≡ is_code k
  by_root e (Code i n) = refl
  by_root e (Mark v m) = refl
  by_root e (Phi p m) = refl

  by_number : (n : ℕ) (k : ItemKind) → is_code (with_number n k) ≡ is_code k
  by_number n (Code i m) = refl
  by_number n (Mark v m) = refl
  by_number n (Phi p m) = refl

calls_pass : Tests is_call_kind
calls_pass = record { renamed = by_root; numbered = by_number; phi = λ i n s k. omega arith } where
  by_root : (e : List Root) (k : ItemKind) → is_call_kind (renamed_kind e k) ≡ is_call_kind k
  by_root e (Code i n) = call_renamed e i
  by_root e (Mark v m) = refl
  by_root e (Phi p m) = refl

  by_number : (n : ℕ) (k : ItemKind) → is_call_kind (with_number n k) ≡ is_call_kind k
  by_number n (Code i m) = refl
  by_number n (Mark v m) = refl
  by_number n (Phi p m) = refl

count_all : (xs : List Item) → count_by (λ (i : Item). true) xs ≡ length xs
count_all [] = refl
count_all (x ∷ xs) = let e = sum_by-cons (λ (i : Item). 1) x xs in let f = count_all xs in omega (arith, e, f)

-- ---- physical registers

-- roots are x0 to x31
abbrev IsReal : ℕ → Type 0
IsReal r = r < 32

abbrev AreReal : List Root → Type 0
AreReal e = Reals IsReal e

operand_real : (e : List Root) → AreReal e → (o : Operand) → IsPhysical o → IsPhysical (renamed_operand e o)
operand_real e h (Use r) p = real_root IsReal e r h p
operand_real e h _ p = p

-- a copy's source is one of its operands
source_real : (i : Instruction) (rd s : ℕ) → row_of i ≡ Moves rd s → All IsPhysical i.operands → s < 32
source_real i rd s is h =
    let w = moves_by i rd s is in
    let all : All IsPhysical (Def rd ∷ Use s ∷ w.rest) = subst (All IsPhysical) w.operands h in
    All-head IsPhysical (Use s) w.rest (All-tail IsPhysical (Def rd) (Use s ∷ w.rest) all)

taught_real : (e : List Root) (i : Instruction) → AreReal e → All IsPhysical i.operands → AreReal (roots_after (row_of i) e)
taught_real e i h p = real_after IsReal (row_of i) e (λ rd s is. source_real i rd s is p) h

-- a copy that is known moves its source
pub known_moves : (e : List Root) (r : Row) (s : ℕ) → known_source e r ≡ Some s → (rd : ℕ) × (r ≡ Moves (suc rd) s) × (root_of e (suc rd) ≡ s)
known_moves e (Moves (suc rd) t) s is = by_test (nat_eq (root_of e (suc rd)) t) refl is where
  by_test : (z : Bool) → nat_eq (root_of e (suc rd)) t ≡ z → cond z (Some t) None ≡ Some s →
      (rd' : ℕ) × (Moves (suc rd) t ≡ Moves (suc rd') s) × (root_of e (suc rd') ≡ s)
  by_test true eq is = let same : t ≡ s = cc in (rd, ap (Moves (suc rd)) same, eqb-true (root_of e (suc rd)) t eq ∙ same)
  by_test false eq is = cc
known_moves e (Moves zero t) s is = cc
known_moves e _ s is = cc

real_stays : Stays HasPhysical AreReal
real_stays = record {
  starts = All-nil (OfRoot IsReal);
  renamed = by_root;
  taught = by_code;
  numbered = by_number;
  phi = λ e i n s k h p is. (let w = known_moves e (row_of i) s is in source_real i (suc w.0) s w.1 p);
} where
  by_root : (e : List Root) (k : ItemKind) → AreReal e → HasPhysical k → HasPhysical (renamed_kind e k)
  by_root e (Code i n) h p = All-map IsPhysical (renamed_operand e) i.operands
      (All-weaker IsPhysical (λ (o : Operand). IsPhysical (renamed_operand e o)) (operand_real e h) i.operands p)
  by_root e (Mark v m) h p = p
  by_root e (Phi q m) h p = p

  by_code : (e : List Root) (k : ItemKind) → AreReal e → HasPhysical k → AreReal (roots_with k e)
  by_code e (Code i n) h p = taught_real e i h p
  by_code e (Mark v m) h p = h
  by_code e (Phi q m) h p = h

  by_number : (n : ℕ) (k : ItemKind) → HasPhysical k → HasPhysical (with_number n k)
  by_number n (Code i m) p = p
  by_number n (Mark v m) p = p
  by_number n (Phi q m) p = p

-- ---- numbers

-- all are less
abbrev Under : ℕ → List ℕ → Type 0
Under b [] = Unit {0}
Under b (n ∷ ns) = (n < b) × Under b ns

under_two : (b : ℕ) (ns ms : List ℕ) → Under b ns → Under b ms → Under b (ns ++ ms)
under_two b [] ms h k = k
under_two b (n ∷ ns) ms h k = (h.0, under_two b ns ms h.1 k)

under_first : (b : ℕ) (ns ms : List ℕ) → Under b (ns ++ ms) → Under b ns
under_first b [] ms h = tt
under_first b (n ∷ ns) ms h = (h.0, under_first b ns ms h.1)

under_second : (b : ℕ) (ns ms : List ℕ) → Under b (ns ++ ms) → Under b ms
under_second b [] ms h = h
under_second b (n ∷ ns) ms h = under_second b ns ms h.1

under_more : (b c : ℕ) (ns : List ℕ) → b ≤ c → Under b ns → Under c ns
under_more b c [] le h = tt
under_more b c (n ∷ ns) le h = (let k = h.0 in omega (arith, k, le), under_more b c ns le h.1)

greatest_under : (m : ℕ) (ns : List ℕ) → greatest ns ≤ m → Under (m + 1) ns
greatest_under m [] h = tt
greatest_under m (n ∷ ns) h =
    let one : n ≤ m = le_trans (le-max_left n (greatest ns)) h in
    (omega (arith, one), greatest_under m ns (le_trans (le-max_right n (greatest ns)) h))

under_greatest : (m : ℕ) (ns : List ℕ) → Under (m + 1) ns → greatest ns ≤ m
under_greatest m [] h = omega arith
under_greatest m (n ∷ ns) h = max-le (let k = h.0 in omega (arith, k)) (under_greatest m ns h.1)

abbrev numbers_on : List Item → List ℕ
numbers_on xs = flat_map (λ (i : Item). numbers_of i.kind) xs

abbrev numbers_among : List DebugSubstitution → List ℕ
numbers_among subs = flat_map (λ (e : DebugSubstitution). e.src.number ∷ e.dst.number ∷ []) subs

numbers_two : (xs ys : List Item) → numbers_on (xs ++ ys) ≡ numbers_on xs ++ numbers_on ys
numbers_two xs ys = flat_map-append (λ (i : Item). numbers_of i.kind) xs ys

items_two : (b : ℕ) (xs ys : List Item) → Under b (numbers_on xs) → Under b (numbers_on ys) → Under b (numbers_on (xs ++ ys))
items_two b xs ys h k = subst (Under b) (sym (numbers_two xs ys)) (under_two b (numbers_on xs) (numbers_on ys) h k)

entries_two : (b : ℕ) (xs ys : List DebugSubstitution) → Under b (numbers_among xs) → Under b (numbers_among ys) → Under b (numbers_among (xs ++ ys))
entries_two b xs ys h k =
    subst (Under b) (sym (flat_map-append (λ (e : DebugSubstitution). e.src.number ∷ e.dst.number ∷ []) xs ys)) (under_two b (numbers_among xs)
    (numbers_among ys) h k)

with_under : (b n : ℕ) (k : ItemKind) → n < b → Under b (numbers_of k) → Under b (numbers_of (with_number n k))
with_under b n (Code i m) lt h = (lt, tt)
with_under b n (Mark v m) lt h = h
with_under b n (Phi p m) lt h = h

numbered_under : (b d n : ℕ) (xs : List Item) → n < b → Under b (numbers_on xs) → Under b (numbers_on (numbered_at d n xs))
numbered_under b d n [] lt h = h
numbered_under b zero n (x ∷ xs) lt h =
    under_two b (numbers_of (with_number n x.kind)) (numbers_on xs)
    (with_under b n x.kind lt (under_first b (numbers_of x.kind) (numbers_on xs) h)) (under_second b (numbers_of x.kind) (numbers_on xs) h)
numbered_under b (suc d) n (x ∷ xs) lt h =
    under_two b (numbers_of x.kind) (numbers_on (numbered_at d n xs)) (under_first b (numbers_of x.kind) (numbers_on xs) h)
    (numbered_under b d n xs lt (under_second b (numbers_of x.kind) (numbers_on xs) h))

-- the number of code that stands there
own_under : (b : ℕ) (xs : List Item) (d : ℕ) (i : Instruction) (m : ℕ) (o : Origin) (l : Loc) → Under b (numbers_on xs) →
    slice_get xs d ≡ Some (item (Code i (Some m)) o l) → m < b
own_under b [] d i m o l h e = cc
own_under b (x ∷ xs) zero i m o l h e =
    let w : x ≡ item (Code i (Some m)) o l = cc in
    (subst (λ (y : Item). Under b (numbers_of y.kind)) w (under_first b (numbers_of x.kind) (numbers_on xs) h)).0
own_under b (x ∷ xs) (suc d) i m o l h e = own_under b xs d i m o l (under_second b (numbers_of x.kind) (numbers_on xs) h) e

-- the numbers so far are less than the fresh one, which is at most one more afterwards
pub record AreUnder (a : SoFar) : Type 0 where
  pub items : Under a.fresh (numbers_on a.done)
  pub entries : Under a.fresh (numbers_among a.subs)

pub record Counts (a b : SoFar) : Type 0 where
  pub under : AreUnder b
  pub least : a.fresh ≤ b.fresh
  pub most : b.fresh ≤ a.fresh + 1

stays_under : (a : SoFar) (k : ItemKind) (o : Origin) (l : Loc) (e : List Root) → AreUnder a → Under a.fresh (numbers_of k) →
    Counts a (record { done = a.done ++ item k o l ∷ []; roots = e; subs = a.subs; fresh = a.fresh })
stays_under a k o l e h p = record {
  under = record { items = items_two a.fresh a.done (item k o l ∷ []) h.items (under_two a.fresh (numbers_of k) [] p tt); entries = h.entries };
  least = le_refl a.fresh;
  most = omega arith;
}

same_under : (a : SoFar) → AreUnder a → Counts a a
same_under a h = record { under = h; least = le_refl a.fresh; most = omega arith }

salvage_under : (a : SoFar) (k s : ℕ) (o : Origin) → AreUnder a → k < a.fresh → (w : SalvageAction) → salvage_action [] a.subs a.fresh k s a.done ≡ w →
    Counts a (salvaged a k s o w)
salvage_under a k s o h lt HasEntry is = record {
  under = record { items = items_two a.fresh a.done [] h.items tt; entries = entries_two a.fresh a.subs [] h.entries tt };
  least = le_refl a.fresh;
  most = omega arith;
}
salvage_under a k s o h lt GetsPhi is = record {
  under = record { items = items_two a.fresh a.done (put_for GetsPhi k s o) h.items (lt, tt); entries = entries_two a.fresh a.subs [] h.entries tt };
  least = le_refl a.fresh;
  most = omega arith;
}
salvage_under a k s o h lt (GetsEntry d p n) is = by_own e.own refl where
  e : IsEntered [] a.subs a.fresh k s a.done d p n
  e = entered [] a.subs a.fresh k s a.done d p n is

  made : (b : ℕ) → a.fresh ≤ b → b ≤ a.fresh + 1 → n < b → cond (nat_eq n a.fresh) (a.fresh + 1) a.fresh ≡ b → Counts a (salvaged a k s o (GetsEntry d p n))
  made b low high less at =
      let items : Under b (numbers_on (numbered_at d n a.done ++ [])) =
      items_two b (numbered_at d n a.done) [] (numbered_under b d n a.done less (under_more a.fresh b (numbers_on a.done) low h.items)) tt in
      let entries : Under b (numbers_among (a.subs ++ entry_for k n p ∷ [])) =
      entries_two b a.subs (entry_for k n p ∷ []) (under_more a.fresh b (numbers_among a.subs) low h.entries) (omega (arith, lt, low), (less, tt)) in
      record {
        under = record {
          items = subst (λ (c : ℕ). Under c (numbers_on (numbered_at d n a.done ++ []))) (sym at) items;
          entries = subst (λ (c : ℕ). Under c (numbers_among (a.subs ++ entry_for k n p ∷ []))) (sym at) entries;
        };
        least = subst (λ (c : ℕ). a.fresh ≤ c) (sym at) low;
        most = subst (λ (c : ℕ). c ≤ a.fresh + 1) (sym at) high;
      }

  by_own : (own : Option ℕ) → e.own ≡ own → Counts a (salvaged a k s o (GetsEntry d p n))
  by_own None none =
      let same : n ≡ a.fresh = e.number ∙ ap (or_fresh a.fresh) none in
      made (a.fresh + 1) (omega arith) (omega arith) (omega (arith, same)) (ap (λ (z : Bool). cond z (a.fresh + 1) a.fresh) (eq-eqb n a.fresh same))
  by_own (Some m) some =
      let same : n ≡ m = e.number ∙ ap (or_fresh a.fresh) some in
      let less : m < a.fresh = own_under a.fresh a.done d e.i m e.origin e.loc h.items (e.stands ∙ (λ j. Some (item (Code e.i (some j)) e.origin e.loc))) in
      made a.fresh (le_refl a.fresh) (omega arith) (omega (arith, same, less))
      (ap (λ (z : Bool). cond z (a.fresh + 1) a.fresh) (ne_eqb n a.fresh (λ z. omega (arith, z, same, less))))

fate_under : (a : SoFar) (i : Instruction) (n : Option ℕ) (o : Origin) (l : Loc) → AreUnder a → Under a.fresh (numbers_of (Code i n)) → (s : Option ℕ) →
    Counts a (by_fate a (item (Code i n) o l) (goes_by n s))
fate_under a i n o l h p None = stays_under a (Code i n) o l (roots_after (row_of i) a.roots) h p
fate_under a i None o l h p (Some s) = same_under a h
fate_under a i (Some k) o l h p (Some s) = salvage_under a k s o h p.0 (salvage_action [] a.subs a.fresh k s a.done) refl

number_renamed : (b : ℕ) (e : List Root) (i : Instruction) (n : Option ℕ) → Under b (numbers_of (Code i n)) → Under b (numbers_of (Code (renamed e i) n))
number_renamed b e i None h = h
number_renamed b e i (Some k) h = h

kind_under : (a : SoFar) (k : ItemKind) (o : Origin) (l : Loc) → AreUnder a → Under a.fresh (numbers_of k) → Counts a (next_item a (item k o l))
kind_under a (Code i n) o l h p =
    fate_under a (renamed a.roots i) n o l h (number_renamed a.fresh a.roots i n p) (known_source a.roots (row_of (renamed a.roots i)))
kind_under a (Mark v m) o l h p = stays_under a (Mark v m) o l a.roots h p
kind_under a (Phi q m) o l h p = stays_under a (Phi q m) o l a.roots h p

-- over the items of a block
pub record CountsOver (a b : SoFar) (n : ℕ) : Type 0 where
  pub under : AreUnder b
  pub least : a.fresh ≤ b.fresh
  pub most : b.fresh ≤ a.fresh + n

items_under : (xs : List Item) (a : SoFar) → AreUnder a → Under a.fresh (numbers_on xs) → CountsOver a (over_items a xs) (length xs)
items_under [] a h p = record { under = h; least = le_refl a.fresh; most = omega arith }
items_under (x ∷ xs) a h p =
    let b = next_item a x in
    let one = kind_under a x.kind x.origin x.loc h (under_first a.fresh (numbers_of x.kind) (numbers_on xs) p) in
    let low = one.least in
    let high = one.most in
    let more = items_under xs b one.under (under_more a.fresh b.fresh (numbers_on xs) low (under_second a.fresh (numbers_of x.kind) (numbers_on xs) p)) in
    let low' = more.least in
    let high' = more.most in
    record { under = more.under; least = omega (arith, low, low'); most = omega (arith, high, high') }

pub record BlocksCount (a b : BlocksSoFar) (n : ℕ) : Type 0 where
  pub items : Under b.fresh (numbers_on (items_of b.blocks))
  pub entries : Under b.fresh (numbers_among b.subs)
  pub least : a.fresh ≤ b.fresh
  pub most : b.fresh ≤ a.fresh + n

blocks_under : (bs : List Block) (a : BlocksSoFar) → Under a.fresh (numbers_on (items_of a.blocks)) → Under a.fresh (numbers_among a.subs) →
    Under a.fresh (numbers_on (items_of bs)) → BlocksCount a (over_blocks a bs) (length (items_of bs))
blocks_under [] a h k p = record { items = h; entries = k; least = le_refl a.fresh; most = omega arith }
blocks_under (b ∷ bs) a h k p =
    let start = at_block a.subs a.fresh in
    let end = over_items start b.items in
    let both : Under a.fresh (numbers_on b.items ++ numbers_on (items_of bs)) = subst (Under a.fresh) (numbers_two b.items (items_of bs)) p in
    let one = items_under b.items start (record { items = tt; entries = k }) (under_first a.fresh (numbers_on b.items) (numbers_on (items_of bs)) both) in
    let low : a.fresh ≤ end.fresh = one.least in
    let high : end.fresh ≤ a.fresh + length b.items = one.most in
    let made : Block = record { id = b.id; items = end.done; source_end = b.source_end } in
    let two : items_of (a.blocks ++ made ∷ []) ≡ items_of a.blocks ++ (end.done ++ []) = flat_map-append (λ (c : Block). c.items) a.blocks (made ∷ []) in
    let items : Under end.fresh (numbers_on (items_of (a.blocks ++ made ∷ []))) =
    subst (λ (xs : List Item). Under end.fresh (numbers_on xs)) (sym two)
    (items_two end.fresh (items_of a.blocks) (end.done ++ []) (under_more a.fresh end.fresh (numbers_on (items_of a.blocks)) low h)
    (items_two end.fresh end.done [] one.under.items tt)) in
    let more = blocks_under bs (next_block a b) items one.under.entries
    (under_more a.fresh end.fresh (numbers_on (items_of bs)) low (under_second a.fresh (numbers_on b.items) (numbers_on (items_of bs)) both)) in
    let low' = more.least in
    let high' = more.most in
    let len : length (items_of (b ∷ bs)) ≡ length b.items + length (items_of bs) = length-append b.items (items_of bs) in
    record { items = more.items; entries = more.entries; least = omega (arith, low, low'); most = omega (arith, high, high', len) }

numbers_bound : (f : Function) (subs : List DebugSubstitution) →
    greatest_number (salvaged_function f subs) (salvaged_entries f subs) ≤ greatest_number f subs + item_count f
numbers_bound f subs =
    let m = greatest_number f subs in
    let all = greatest_under m (numbers_on (items_of f.blocks) ++ numbers_among subs) (le_refl m) in
    let w = blocks_under f.blocks (begins f subs) tt (under_second (m + 1) (numbers_on (items_of f.blocks)) (numbers_among subs) all)
    (under_first (m + 1) (numbers_on (items_of f.blocks)) (numbers_among subs) all) in
    let end = over_blocks (begins f subs) f.blocks in
    let most : end.fresh ≤ (m + 1) + item_count f = w.most in
    let ns = numbers_on (items_of end.blocks) ++ numbers_among end.subs in
    let under : Under ((m + item_count f) + 1) ns =
    under_more end.fresh ((m + item_count f) + 1) ns (omega (arith, most))
    (under_two end.fresh (numbers_on (items_of end.blocks)) (numbers_among end.subs) w.items w.entries) in
    under_greatest (m + item_count f) ns under

-- ---- all of it

le_most : (n m : ℕ) → n ≤ m → n ≤ 1 * (m + MAX_BLOCKS * 1)
le_most n m h = omega (arith, h)

numbers_most : (n m k : ℕ) → n ≤ m + k → n ≤ m + 1 * (1 * (k + MAX_BLOCKS * 1))
numbers_most n m k h = omega (arith, h)

pub sizes_copied : (f : Function) (subs : List DebugSubstitution) → KeepsSizes 1 1 (change f subs (salvaged_function f subs) (salvaged_entries f subs))
sizes_copied f subs =
    let new = items_of (salvaged_function f subs).blocks in
    let old = items_of f.blocks in
    let all = count_blocks (λ k. true) all_pass f.blocks (begins f subs) in
    let a = count_all new in
    let b = count_all old in
    let z : count_by (λ (i : Item). true) [] ≡ 0 = refl in
    let code = count_blocks is_code code_passes f.blocks (begins f subs) in
    let y : count_by (λ (i : Item). is_code i.kind) [] ≡ 0 = refl in
    let call = count_blocks is_call_kind calls_pass f.blocks (begins f subs) in
    let x : count_by (λ (i : Item). is_call_kind i.kind) [] ≡ 0 = refl in
    record {
      items = le_most (length new) (length old) (omega (arith, all, a, b, z));
      code = le_most (count_by (λ i. is_code i.kind) new) (count_by (λ i. is_code i.kind) old) (omega (arith, code, y));
      calls = omega (arith, call, x);
      physical = λ h. each_blocks HasPhysical AreReal real_stays f.blocks (begins f subs)
          (All-nil (λ (b : Block). All (λ (i : Item). HasPhysical i.kind) b.items)) h;
      numbers = numbers_most (greatest_number (salvaged_function f subs) (salvaged_entries f subs)) (greatest_number f subs) (item_count f)
          (numbers_bound f subs);
      slots = omega arith;
    }
