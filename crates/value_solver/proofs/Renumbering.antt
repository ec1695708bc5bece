-- Class numbers by first appearance: those of pairs with class 0.
use Rattle.std.proofs.Common.{◌≡◌, ℕ, zero, suc, List, [], ◌∷◌, ◌++◌, length, Bool, true, false, cond, Option, Some, None}
use Rattle.std.proofs.Common.{refl, sym, ap, ◌∙◌, subst, arith, eqb, ltb-true, ltb-false}
use Rattle.std.specs.Prelude.{slice_index, nat_eq, nat_lt, ◌&&◌, ◌↔◌, not}
use Rattle.std.proofs.lemmas.Bool.{eqb-true, eqb-false, eq-eqb, ne_eqb, false≢true}
use Rattle.value_solver.specs.declared.entry.BlockEntry.{BlockEntry}
use Rattle.value_solver.specs.Numbering.{class_in, IsRenumbered}
use Rattle.value_solver.specs.PairNumbers.{IsNumber}
use Rattle.value_solver.specs.Joining.{Hand, IsPast, IsJoin, IsJoined, hand_class}
use Rattle.value_solver.proofs.Pairing.{Numbering, numbering_next, numbering_ends}

-- as many zeros
abbrev pub zeros : ℕ → List ℕ
zeros zero = []
zeros (suc n) = 0 ∷ zeros n

pub zero_at : (n i : ℕ) → slice_index (zeros n) i ≡ 0
zero_at zero i = refl
zero_at (suc n) zero = refl
zero_at (suc n) (suc i) = zero_at n i

zeros_long : (n : ℕ) → length (zeros n) ≡ n
zeros_long zero = refl
zeros_long (suc n) = ap suc (zeros_long n)

class_zero : (n x : ℕ) → class_in (zeros n) x ≡ 0
class_zero n zero = refl
class_zero n (suc i) = zero_at n i

-- one more class
pub renumbered_next : (b : List ℕ) (i count more : ℕ) (table after : ℕ × ℕ → Option ℕ) (c : List ℕ) (n : ℕ) →
    IsNumber table after (0, slice_index b i) count more n → Numbering (zeros (length b)) b i count table c →
    Numbering (zeros (length b)) b (suc i) more after (c ++ n ∷ [])
renumbered_next b i count more table after c n number s =
    numbering_next (zeros (length b)) b i count more table after c n
    (subst (λ (z : ℕ). IsNumber table after (z, slice_index b i) count more n) (sym (zero_at (length b) i)) number) s

-- all of them
pub renumbered_ends : (b : List ℕ) (i count : ℕ) (table : ℕ × ℕ → Option ℕ) (c : List ℕ) → i ≡ length b → Numbering (zeros (length b)) b i count table c →
    IsRenumbered b c
renumbered_ends b i count table c all s =
    let long = zeros_long (length b) in
    let meet = numbering_ends (zeros (length b)) b i count table c (all ∙ sym long) (sym long) s in
    record {
      long = meet.long ∙ long;
      one = λ x y. (λ e. ((meet.one x y).0 e).1, λ e. (meet.one x y).1 (class_zero (length b) x ∙ sym (class_zero (length b) y), e));
      numbered = meet.numbered;
    }

-- ---- a number is put

flip : (x y : ℕ) → nat_eq x y ≡ nat_eq y x
flip x y = by_test (eqb x y) refl where
  by_test : (z : Bool) → eqb x y ≡ z → nat_eq x y ≡ nat_eq y x
  by_test true e = e ∙ sym (eq-eqb y x (sym (eqb-true x y e)))
  by_test false e = e ∙ sym (ne_eqb y x (λ h. eqb-false x y e (sym h)))

-- of a pair with class 0, where one of its class is put
pub with_zero : (z w : Bool) (new old : Option ℕ) (n : ℕ) → new ≡ cond w (Some n) old → cond z new None ≡ cond (z && w) (Some n) (cond z old None)
with_zero true w new old n e = e
with_zero false w new old n e = refl

pub none_with_zero : (z w : Bool) (a b : Option ℕ) → a ≡ None → b ≡ None → cond z (cond w a b) None ≡ None
none_with_zero true true a b e f = e
none_with_zero true false a b e f = f
none_with_zero false w a b e f = refl

-- into the table of the classes below a count
pub put_near : (count more class n : ℕ) (old new far : ℕ → Option ℕ) → nat_lt class count ≡ true → more ≡ count →
    ((k : ℕ) → new k ≡ cond (nat_eq k class) (Some n) (old k)) → (v : ℕ) →
    cond (nat_lt v more) (new v) (far v) ≡ cond (nat_eq class v) (Some n) (cond (nat_lt v count) (old v) (far v))
put_near count more class n old new far near same put v =
    ap (λ (m : ℕ). cond (nat_lt v m) (new v) (far v)) same ∙ by_test (nat_lt v count) refl where
      by_test : (z : Bool) → nat_lt v count ≡ z → cond z (new v) (far v) ≡ cond (nat_eq class v) (Some n) (cond z (old v) (far v))
      by_test true e = put v ∙ ap (λ (w : Bool). cond w (Some n) (old v)) (flip v class)
      by_test false e =
          let less = ltb-true class count near in
          let beyond = ltb-false v count e in
          sym (ap (λ (w : Bool). cond w (Some n) (far v)) (ne_eqb class v (λ is. omega (arith, is, less, beyond))))

-- into the other one
pub put_far : (count class n : ℕ) (near old new : ℕ → Option ℕ) → nat_lt class count ≡ false →
    ((k : ℕ) → new k ≡ cond (nat_eq k class) (Some n) (old k)) → (v : ℕ) →
    cond (nat_lt v count) (near v) (new v) ≡ cond (nat_eq class v) (Some n) (cond (nat_lt v count) (near v) (old v))
put_far count class n near old new far put v = by_test (nat_lt v count) refl where
  by_test : (z : Bool) → nat_lt v count ≡ z → cond z (near v) (new v) ≡ cond (nat_eq class v) (Some n) (cond z (near v) (old v))
  by_test true e =
      let beyond = ltb-false class count far in
      let less = ltb-true v count e in
      sym (ap (λ (w : Bool). cond w (Some n) (near v)) (ne_eqb class v (λ is. omega (arith, is, less, beyond))))
  by_test false e = put v ∙ ap (λ (w : Bool). cond w (Some n) (old v)) (flip v class)

-- ---- the join of one hand alone

same_test : (p q r s : ℕ) → (p ≡ q) ↔ (r ≡ s) → nat_eq p q ≡ nat_eq r s
same_test p q r s same = by_test (eqb r s) refl where
  by_test : (z : Bool) → eqb r s ≡ z → nat_eq p q ≡ nat_eq r s
  by_test true e = eq-eqb p q (same.1 (eqb-true r s e)) ∙ sym e
  by_test false e = ne_eqb p q (λ h. eqb-false r s e (same.0 h)) ∙ sym e

and_all : (z w : Bool) → z ≡ w → z ≡ (w && true)
and_all true true e = refl
and_all true false e = e
and_all false true e = e
and_all false false e = refl

pub alone_joined : (h : Hand) (b c : List ℕ) (given : List Bool) → IsRenumbered b c → IsPast h b given →
    IsJoin (length b) (h ∷ []) (record { reached = true; classes = c; given = given })
alone_joined h b c given renumbered past = record {
  classes = renumbered.long;
  bits = past.bits ∙ sym past.long;
  reached = refl;
  one = λ x y. and_all (nat_eq (class_in c x) (class_in c y)) (nat_eq (hand_class h x) (hand_class h y))
      (same_test (class_in c x) (class_in c y) (class_in b x) (class_in b y) (renumbered.one x y)
      ∙ (λ z. nat_eq (past.class x z) (past.class y z)));
  bit = λ i less. and_all _ _ (past.bit i);
  numbered = renumbered.numbered;
}

-- ---- what is joined so far

pub joined_some : (n : ℕ) (h : Hand) (hands : List Hand) (e : BlockEntry) → IsJoin n (h ∷ hands) e → IsJoined n (h ∷ hands) e
joined_some n h hands e join = record {
  some = λ r. join;
  none = λ r. absurd (false≢true (sym r ∙ join.reached ∙ ap not (ne_eqb (length (h ∷ hands)) 0 (λ none. omega (arith, none)))));
}

pub joined_none : (n : ℕ) (hands : List Hand) (e : BlockEntry) → e.reached ≡ false → hands ≡ [] → IsJoined n hands e
joined_none n hands e unreached none = record { some = λ r. absurd (false≢true (sym unreached ∙ r)); none = λ r. none }

pub joined_push : (n : ℕ) (h : Hand) (hands : List Hand) (e : BlockEntry) → IsJoin n (hands ++ h ∷ []) e → IsJoined n (hands ++ h ∷ []) e
joined_push n h [] e join = joined_some n h [] e join
joined_push n h (x ∷ hands) e join = joined_some n x (hands ++ h ∷ []) e join

-- ---- flags that are asked the other way round

pub off : (z : Bool) → not z ≡ true → z ≡ false
off true e = sym e
off false e = refl

pub on : (z : Bool) → not z ≡ false → z ≡ true
on true e = refl
on false e = sym e
