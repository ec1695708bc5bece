-- Two things have one key only if they are one.
use Rattle.std.proofs.Common.{◌≡◌, ℕ, refl, ap, arith, eqb-true}
use Rattle.std.specs.Prelude.{Option, Some, None, true, ◌&&◌, nat_eq}
use Rattle.std.proofs.lemmas.Bool.{and_parts, eq-eqb}
use Rattle.mir_func.specs.declared.debug_substitution.OperandPair.{OperandPair}
use Rattle.mir_func.specs.declared.variable.VarId.{VarId}
use Rattle.mir_func.specs.Parts.{Bytes}
use Rattle.value_solver.specs.declared.tracked.Tracked.{Tracked}
use Rattle.value_solver.specs.declared.tracked.Tracked.TheVariants.{Register, Slot, Pair, Part, Number}
use Rattle.value_live_ins.specs.Keys.{Key, key_of, is_key, node_code, start_code, length_code}

record SameKey (p q : Key) : Type 0 where
  first : p.0 ≡ q.0
  second : p.1 ≡ q.1
  third : p.2 ≡ q.2
  fourth : p.3 ≡ q.3
  fifth : p.4 ≡ q.4

same_key : (p q : Key) → is_key p q ≡ true → SameKey p q
same_key p q h =
    let a = and_parts (((nat_eq p.0 q.0 && nat_eq p.1 q.1) && nat_eq p.2 q.2) && nat_eq p.3 q.3) (nat_eq p.4 q.4) h in
    let b = and_parts ((nat_eq p.0 q.0 && nat_eq p.1 q.1) && nat_eq p.2 q.2) (nat_eq p.3 q.3) a.0 in
    let c = and_parts (nat_eq p.0 q.0 && nat_eq p.1 q.1) (nat_eq p.2 q.2) b.0 in
    let d = and_parts (nat_eq p.0 q.0) (nat_eq p.1 q.1) c.0 in
    record {
      first = eqb-true p.0 q.0 d.0;
      second = eqb-true p.1 q.1 d.1;
      third = eqb-true p.2 q.2 c.1;
      fourth = eqb-true p.3 q.3 b.1;
      fifth = eqb-true p.4 q.4 a.1;
    }

pub key_itself : (p : Key) → is_key p p ≡ true
key_itself p =
    λ i. (((eq-eqb p.0 p.0 refl i && eq-eqb p.1 p.1 refl i) && eq-eqb p.2 p.2 refl i) && eq-eqb p.3 p.3 refl i) && eq-eqb p.4 p.4 refl i

one_node : (a b : Option ℕ) → node_code a ≡ node_code b → a ≡ b
one_node None None e = refl
one_node (Some m) (Some n) e = let same : m ≡ n = omega (arith, e) in ap (λ (z : ℕ). Some z) same
one_node None (Some n) e = absurd (omega (arith, e))
one_node (Some m) None e = absurd (omega (arith, e))

one_fragment : (a b : Option Bytes) → start_code a ≡ start_code b → length_code a ≡ length_code b → a ≡ b
one_fragment None None e f = refl
one_fragment (Some a) (Some b) e f =
    let offset : a.offset ≡ b.offset = omega (arith, e) in
    λ i. Some (record { offset = offset i; length = f i })
one_fragment None (Some b) e f = absurd (omega (arith, e))
one_fragment (Some a) None e f = absurd (omega (arith, e))

one_part : (v w : VarId) → SameKey (key_of (Part v)) (key_of (Part w)) → v ≡ w
one_part v w h =
    let node : v.node ≡ w.node = h.second in
    let inlined : v.inlined_at ≡ w.inlined_at = one_node v.inlined_at w.inlined_at h.third in
    let fragment : v.fragment ≡ w.fragment = one_fragment v.fragment w.fragment h.fourth h.fifth in
    λ i. record { node = node i; inlined_at = inlined i; fragment = fragment i }

one_pair : (p q : OperandPair) → SameKey (key_of (Pair p)) (key_of (Pair q)) → p ≡ q
one_pair p q h =
    let number : p.number ≡ q.number = h.second in
    let operand : p.operand ≡ q.operand = h.third in
    λ i. record { number = number i; operand = operand i }

by_key : (x y : Tracked) → SameKey (key_of x) (key_of y) → x ≡ y
by_key (Register q) (Register r) h = ap Register h.second
by_key (Slot m) (Slot n) h = ap Slot h.second
by_key (Pair p) (Pair q) h = ap Pair (one_pair p q h)
by_key (Part v) (Part w) h = ap Part (one_part v w h)
by_key (Number c) (Number d) h = ap Number h.second
by_key (Register q) (Slot n) h = absurd (omega (arith, h.first))
by_key (Register q) (Pair p) h = absurd (omega (arith, h.first))
by_key (Register q) (Part v) h = absurd (omega (arith, h.first))
by_key (Register q) (Number c) h = absurd (omega (arith, h.first))
by_key (Slot m) (Register r) h = absurd (omega (arith, h.first))
by_key (Slot m) (Pair p) h = absurd (omega (arith, h.first))
by_key (Slot m) (Part v) h = absurd (omega (arith, h.first))
by_key (Slot m) (Number c) h = absurd (omega (arith, h.first))
by_key (Pair p) (Register r) h = absurd (omega (arith, h.first))
by_key (Pair p) (Slot n) h = absurd (omega (arith, h.first))
by_key (Pair p) (Part v) h = absurd (omega (arith, h.first))
by_key (Pair p) (Number c) h = absurd (omega (arith, h.first))
by_key (Part v) (Register r) h = absurd (omega (arith, h.first))
by_key (Part v) (Slot n) h = absurd (omega (arith, h.first))
by_key (Part v) (Pair p) h = absurd (omega (arith, h.first))
by_key (Part v) (Number c) h = absurd (omega (arith, h.first))
by_key (Number c) (Register r) h = absurd (omega (arith, h.first))
by_key (Number c) (Slot n) h = absurd (omega (arith, h.first))
by_key (Number c) (Pair p) h = absurd (omega (arith, h.first))
by_key (Number c) (Part v) h = absurd (omega (arith, h.first))

pub key_tells : (x y : Tracked) → is_key (key_of x) (key_of y) ≡ true → x ≡ y
key_tells x y h = by_key x y (same_key (key_of x) (key_of y) h)
