-- What a part of a variable was assigned last, and what it holds of a value.
use Rattle.std.proofs.Common.{◌≡◌, ℕ, ◌+◌, ◌*◌, ◌^◌, ◌<◌, List, [], ◌∷◌, Option, Some, None, Bool, true, false, cond, ◌&&◌, nat_eq, nat_lt, refl, sym, ap}
use Rattle.std.proofs.Common.{◌∙◌, subst, inl, inr, eq-eqb, eqb-true, ne_eqb, lt-ltb, lt_of_le_of_lt, IfSome, arith}
use Rattle.std.proofs.lemmas.Bool.{and_parts, and_from, cases_eq}
use Rattle.std.proofs.Math.Bool.{and_comm}
use Rattle.std.proofs.Math.Nat.{mod-le, mod-mod}
use Rattle.mir_func.specs.declared.variable.VarId.{VarId}
use Rattle.mir_func.specs.Parts.{Bytes, IsPart}
use Rattle.mir_func.specs.Variables.{is_same_node, is_same_variable, are_same_bytes, is_same, do_meet, overlaps, low_part, part_value}
use Rattle.sem_mir.specs.State.{assigned}

-- ---- `is_same` is equality

same_node_refl : (m : Option ℕ) → is_same_node m m ≡ true
same_node_refl None = refl
same_node_refl (Some n) = eq-eqb n n refl

same_node_is : (m n : Option ℕ) → is_same_node m n ≡ true → m ≡ n
same_node_is None None e = refl
same_node_is (Some m) (Some n) e = ap Some (eqb-true m n e)
same_node_is None (Some n) e = cc
same_node_is (Some m) None e = cc

same_bytes_refl : (a : Option Bytes) → are_same_bytes a a ≡ true
same_bytes_refl None = refl
same_bytes_refl (Some a) = and_from (nat_eq a.offset a.offset) (nat_eq a.length a.length) (eq-eqb a.offset a.offset refl) (eq-eqb a.length a.length refl)

same_bytes_is : (a b : Option Bytes) → are_same_bytes a b ≡ true → a ≡ b
same_bytes_is None None e = refl
same_bytes_is (Some a) (Some b) e =
    let k = and_parts (nat_eq a.offset b.offset) (nat_eq a.length b.length) e in
    let offset : a.offset ≡ b.offset = eqb-true a.offset b.offset k.0 in
    let length : a.length ≡ b.length = eqb-true a.length b.length k.1 in
    λ i. Some (record { offset = offset i; length = length i })
same_bytes_is None (Some b) e = cc
same_bytes_is (Some a) None e = cc

pub same_variable_refl : (v : VarId) → is_same_variable v v ≡ true
same_variable_refl v = and_from (nat_eq v.node v.node) (is_same_node v.inlined_at v.inlined_at) (eq-eqb v.node v.node refl) (same_node_refl v.inlined_at)

pub same_refl : (v : VarId) → is_same v v ≡ true
same_refl v = and_from (is_same_variable v v) (are_same_bytes v.fragment v.fragment) (same_variable_refl v) (same_bytes_refl v.fragment)

pub same_is : (v w : VarId) → is_same v w ≡ true → v ≡ w
same_is v w e =
    let k = and_parts (is_same_variable v w) (are_same_bytes v.fragment w.fragment) e in
    let l = and_parts (nat_eq v.node w.node) (is_same_node v.inlined_at w.inlined_at) k.0 in
    let node : v.node ≡ w.node = eqb-true v.node w.node l.0 in
    let inlined : v.inlined_at ≡ w.inlined_at = same_node_is v.inlined_at w.inlined_at l.1 in
    let fragment : v.fragment ≡ w.fragment = same_bytes_is v.fragment w.fragment k.1 in
    λ i. record { node = node i; inlined_at = inlined i; fragment = fragment i }

-- parts that differ are not the same
pub not_same : (v w : VarId) → (v ≡ w → ⊥) → is_same v w ≡ false
not_same v w ne = by_test (is_same v w) refl where
  by_test : (b : Bool) → is_same v w ≡ b → b ≡ false
  by_test true e = absurd (ne (same_is v w e))
  by_test false e = refl

-- ---- both are symmetric

eq_symmetric : (m n : ℕ) → nat_eq m n ≡ nat_eq n m
eq_symmetric m n =
    elim (cases_eq m n) as (λ _. nat_eq m n ≡ nat_eq n m) [
      | inl e ↦ eq-eqb m n e ∙ sym (eq-eqb n m (sym e))
      | inr ne ↦ ne_eqb m n ne ∙ sym (ne_eqb n m (λ e. ne (sym e)))
    ]

same_node_symmetric : (m n : Option ℕ) → is_same_node m n ≡ is_same_node n m
same_node_symmetric None None = refl
same_node_symmetric (Some m) (Some n) = eq_symmetric m n
same_node_symmetric None (Some n) = refl
same_node_symmetric (Some m) None = refl

same_bytes_symmetric : (a b : Option Bytes) → are_same_bytes a b ≡ are_same_bytes b a
same_bytes_symmetric None None = refl
same_bytes_symmetric (Some a) (Some b) = λ i. eq_symmetric a.offset b.offset i && eq_symmetric a.length b.length i
same_bytes_symmetric None (Some b) = refl
same_bytes_symmetric (Some a) None = refl

meet_symmetric : (a b : Option Bytes) → do_meet a b ≡ do_meet b a
meet_symmetric None None = refl
meet_symmetric (Some a) (Some b) = and_comm (nat_lt a.offset (b.offset + b.length)) (nat_lt b.offset (a.offset + a.length))
meet_symmetric None (Some b) = refl
meet_symmetric (Some a) None = refl

pub same_variable_symmetric : (v w : VarId) → is_same_variable v w ≡ is_same_variable w v
same_variable_symmetric v w = λ i. eq_symmetric v.node w.node i && same_node_symmetric v.inlined_at w.inlined_at i

pub same_symmetric : (v w : VarId) → is_same v w ≡ is_same w v
same_symmetric v w = λ i. same_variable_symmetric v w i && same_bytes_symmetric v.fragment w.fragment i

pub overlaps_symmetric : (v w : VarId) → overlaps v w ≡ overlaps w v
overlaps_symmetric v w = λ i. same_variable_symmetric v w i && meet_symmetric v.fragment w.fragment i

-- a part with a byte overlaps itself, and so one that is the same
meets_itself : (a : Option Bytes) → IfSome a IsPart → do_meet a a ≡ true
meets_itself None h = refl
meets_itself (Some a) h =
    let some = h.0 in
    let lt : nat_lt a.offset (a.offset + a.length) ≡ true = lt-ltb a.offset (a.offset + a.length) (omega (arith, some)) in
    and_from (nat_lt a.offset (a.offset + a.length)) (nat_lt a.offset (a.offset + a.length)) lt lt

pub same_overlaps : (v w : VarId) → IfSome v.fragment IsPart → is_same v w ≡ true → overlaps v w ≡ true
same_overlaps v w h e =
    subst (λ (u : VarId). overlaps v u ≡ true) (same_is v w e)
    (and_from (is_same_variable v v) (do_meet v.fragment v.fragment) (same_variable_refl v) (meets_itself v.fragment h))

-- ---- the newest assignment

module _ {A : Type 0} where
  -- after a mark of the part itself, of one that overlaps it, and of any other
  pub assigned_same : (v : VarId) (x : Option A) (ms : List (VarId × Option A)) → assigned v ((v, x) ∷ ms) ≡ x
  assigned_same v x ms = ap (λ (z : Bool). cond z x (cond (overlaps v v) None (assigned v ms))) (same_refl v)

  pub assigned_over : (v w : VarId) (x : Option A) (ms : List (VarId × Option A)) → is_same v w ≡ false → overlaps v w ≡ true → assigned v ((w, x) ∷ ms) ≡ None
  assigned_over v w x ms s o = λ i. cond (s i) x (cond (o i) None (assigned v ms))

  pub assigned_other : (v w : VarId) (x : Option A) (ms : List (VarId × Option A)) → is_same v w ≡ false → overlaps v w ≡ false →
      assigned v ((w, x) ∷ ms) ≡ assigned v ms
  assigned_other v w x ms s o = λ i. cond (s i) x (cond (o i) None (assigned v ms))

  -- of two parts that overlap one has no assignment
  pub one_assigned : (v w : VarId) (ms : List (VarId × Option A)) (a b : A) → overlaps v w ≡ true → is_same v w ≡ false → assigned v ms ≡ Some a →
      assigned w ms ≡ Some b → ⊥
  one_assigned v w [] a b o s e f = cc
  one_assigned v w (m ∷ ms) a b o s e f =
      by_first (is_same v m.0) (overlaps v m.0) refl refl e (λ e'. by_second (is_same w m.0) (overlaps w m.0) refl refl f
      (λ f'. one_assigned v w ms a b o s e' f')) where
        -- w's assignment after a mark of v itself, and v's where w is marked
        hidden : v ≡ m.0 → ⊥
        hidden k =
            let s' : is_same w m.0 ≡ false = ap (is_same w) (sym k) ∙ sym (same_symmetric v w) ∙ s in
            let o' : overlaps w m.0 ≡ true = ap (overlaps w) (sym k) ∙ sym (overlaps_symmetric v w) ∙ o in
            let none : None ≡ Some b = sym (assigned_over w m.0 m.1 ms s' o') ∙ f in
            cc

        by_second : (same over : Bool) → is_same w m.0 ≡ same → overlaps w m.0 ≡ over → cond same m.1 (cond over None (assigned w ms)) ≡ Some b →
            (assigned w ms ≡ Some b → ⊥) → overlaps v m.0 ≡ false → ⊥
        by_second true over t u f' later apart =
            let met : false ≡ true = sym apart ∙ ap (overlaps v) (sym (same_is w m.0 t)) ∙ o in
            cc
        by_second false true t u f' later apart = cc
        by_second false false t u f' later apart = later f'

        by_first : (same over : Bool) → is_same v m.0 ≡ same → overlaps v m.0 ≡ over → cond same m.1 (cond over None (assigned v ms)) ≡ Some a →
            (assigned v ms ≡ Some a → overlaps v m.0 ≡ false → ⊥) → ⊥
        by_first true over t u e' later = hidden (same_is v m.0 t)
        by_first false true t u e' later = cc
        by_first false false t u e' later = later e' u

-- ---- what a part holds of a value

low_below : (b : Option Bytes) (x n : ℕ) → x < n → low_part b x < n
low_below None x n lt = lt
low_below (Some b) x n lt = lt_of_le_of_lt (mod-le x (2 ^ (8 * b.length))) lt

-- it is no greater than the value
pub part_below : (v : VarId) (x n : ℕ) → x < n → part_value v x < n
part_below v x n lt = low_below v.fragment x n lt

low_again : (b : Option Bytes) (x : ℕ) → low_part b (low_part b x) ≡ low_part b x
low_again None x = refl
low_again (Some b) x = mod-mod x (2 ^ (8 * b.length))

-- and the same part of it is all of it
pub part_again : (v : VarId) (x : ℕ) → part_value v (part_value v x) ≡ part_value v x
part_again v x = low_again v.fragment x
