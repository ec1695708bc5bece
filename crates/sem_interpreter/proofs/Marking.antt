-- Parts of variables: what is kept of each stands for some marks, and for one more after an assignment.
use Rattle.std.proofs.Common.{◌≡◌, ℕ, List, [], ◌∷◌, ◌++◌, Option, Some, None, Bool, true, false, cond, ◌&&◌, nat_eq, refl, sym, ap, ◌∙◌, subst, inl, inr}
use Rattle.std.proofs.Common.{arith, suc, length, drop, get_or, append_assoc, append-nil}
use Rattle.std.specs.Prelude.{◌⊎◌, ◌<◌, ◌≤◌, ◌+◌, nat_lt, unwrap_or}
use Rattle.std.specs.Option.{option_eq}
use Rattle.std.specs.Map.{lookup}
use Rattle.std.proofs.Math.Seq.{drop-cons}
use Rattle.std.proofs.lemmas.List.{drop_all}
use Rattle.std.proofs.lemmas.Bool.{cases_eq, cases_Bool, eq-eqb, eqb-true, ne_eqb, and_parts, lt-ltb, ltb-true}
use Rattle.mir_func.specs.declared.variable.VarId.{VarId}
use Rattle.mir_func.specs.Parts.{Bytes}
use Rattle.mir_func.specs.Variables.{is_same_node, is_same_variable, are_same_bytes, do_meet}
use Rattle.sem_mir.specs.State.{assigned}
use Rattle.sem_interpreter.specs.Assigned.{Covers, MarksHold, are_same_keys, assigned_in, key_of, part_in}

-- ---- keys

nodes_are : (a b : Option ℕ) → is_same_node a b ≡ option_eq nat_eq a b
nodes_are None None = refl
nodes_are None (Some n) = refl
nodes_are (Some m) None = refl
nodes_are (Some m) (Some n) = refl

variables_are : (v w : VarId) → is_same_variable v w ≡ are_same_keys (key_of v) (key_of w)
variables_are v w = ap (λ (b : Bool). nat_eq v.node w.node && b) (nodes_are v.inlined_at w.inlined_at)

same_nodes : (a b : Option ℕ) → option_eq nat_eq a b ≡ true → a ≡ b
same_nodes None None h = refl
same_nodes None (Some n) h = cc
same_nodes (Some m) None h = cc
same_nodes (Some m) (Some n) h = ap (λ (x : ℕ). Some x) (eqb-true m n h)

same_keys : (k l : ℕ × Option ℕ) → are_same_keys k l ≡ true → k ≡ l
same_keys k l h =
    let both = and_parts (nat_eq k.0 l.0) (option_eq nat_eq k.1 l.1) h in
    λ i. (eqb-true k.0 l.0 both.0 i, same_nodes k.1 l.1 both.1 i)

turned_node : (m n : ℕ) → nat_eq m n ≡ nat_eq n m
turned_node m n = elim (cases_eq m n) [ inl e ↦ eq-eqb m n e ∙ sym (eq-eqb n m (sym e)) | inr ne ↦ ne_eqb m n ne ∙ sym (ne_eqb n m (λ e. ne (sym e))) ]

turned_nodes : (a b : Option ℕ) → option_eq nat_eq a b ≡ option_eq nat_eq b a
turned_nodes None None = refl
turned_nodes None (Some n) = refl
turned_nodes (Some m) None = refl
turned_nodes (Some m) (Some n) = turned_node m n

turned : (k l : ℕ × Option ℕ) → are_same_keys k l ≡ are_same_keys l k
turned k l = λ i. turned_node k.0 l.0 i && turned_nodes k.1 l.1 i

-- ---- marks for what is kept: those of each variable, and then one of the whole, behind which nothing is seen

abbrev whole : ℕ × Option ℕ → VarId
whole k = record { node = k.0; inlined_at = k.1; fragment = None }

abbrev marks_before : ℕ × Option ℕ → List (Option Bytes × Option ℕ) → List (VarId × Option ℕ) → List (VarId × Option ℕ)
marks_before k [] rest = (whole k, None) ∷ rest
marks_before k (p ∷ ps) rest = (record { node = k.0; inlined_at = k.1; fragment = p.0 }, p.1) ∷ marks_before k ps rest

abbrev pub marks_of : List ((ℕ × Option ℕ) × List (Option Bytes × Option ℕ)) → List (VarId × Option ℕ)
marks_of [] = []
marks_of (e ∷ es) = marks_before e.0 e.1 (marks_of es)

-- an assignment to a part of the variable
at_same : (v w : VarId) (x : Option ℕ) (rest : List (VarId × Option ℕ)) → is_same_variable v w ≡ true →
    assigned v ((w, x) ∷ rest) ≡ cond (are_same_bytes v.fragment w.fragment) x (cond (do_meet v.fragment w.fragment) None (assigned v rest))
at_same v w x rest h =
    ap (λ (b : Bool). cond (b && are_same_bytes v.fragment w.fragment) x (cond (b && do_meet v.fragment w.fragment) None (assigned v rest))) h

-- one to another variable
at_other : (v w : VarId) (x : Option ℕ) (rest : List (VarId × Option ℕ)) → is_same_variable v w ≡ false → assigned v ((w, x) ∷ rest) ≡ assigned v rest
at_other v w x rest h =
    ap (λ (b : Bool). cond (b && are_same_bytes v.fragment w.fragment) x (cond (b && do_meet v.fragment w.fragment) None (assigned v rest))) h

unseen : (b : Option Bytes) (y : Option ℕ) → cond (are_same_bytes b None) None (cond (do_meet b None) None y) ≡ None
unseen None y = refl
unseen (Some b) y = refl

before_same : (v : VarId) (k : ℕ × Option ℕ) (ps : List (Option Bytes × Option ℕ)) (rest : List (VarId × Option ℕ)) → is_same_variable v (whole k) ≡ true →
    assigned v (marks_before k ps rest) ≡ part_in v.fragment ps
before_same v k [] rest h = at_same v (whole k) None rest h ∙ unseen v.fragment (assigned v rest)
before_same v k (p ∷ ps) rest h =
    at_same v (record { node = k.0; inlined_at = k.1; fragment = p.0 }) p.1 (marks_before k ps rest) h
    ∙ ap (λ (y : Option ℕ). cond (are_same_bytes v.fragment p.0) p.1 (cond (do_meet v.fragment p.0) None y)) (before_same v k ps rest h)

before_other : (v : VarId) (k : ℕ × Option ℕ) (ps : List (Option Bytes × Option ℕ)) (rest : List (VarId × Option ℕ)) → is_same_variable v (whole k) ≡ false →
    assigned v (marks_before k ps rest) ≡ assigned v rest
before_other v k [] rest h = at_other v (whole k) None rest h
before_other v k (p ∷ ps) rest h =
    at_other v (record { node = k.0; inlined_at = k.1; fragment = p.0 }) p.1 (marks_before k ps rest) h ∙ before_other v k ps rest h

pub marks_hold : (es : List ((ℕ × Option ℕ) × List (Option Bytes × Option ℕ))) → MarksHold es (marks_of es)
marks_hold [] v = refl
marks_hold (e ∷ es) v = elim (cases_Bool (are_same_keys (key_of v) e.0)) as (λ _. assigned v (marks_of (e ∷ es)) ≡ assigned_in v (e ∷ es)) [
  | inl t ↦ before_same v e.0 e.1 (marks_of es) (variables_are v (whole e.0) ∙ t) ∙ sym (found true t)
  | inr f ↦ before_other v e.0 e.1 (marks_of es) (variables_are v (whole e.0) ∙ f) ∙ marks_hold es v ∙ sym (found false f)
]
  where
    found : (b : Bool) → are_same_keys (key_of v) e.0 ≡ b →
        assigned_in v (e ∷ es) ≡ part_in v.fragment (unwrap_or (cond b (Some e.1) (lookup (are_same_keys (key_of v)) es)) [])
    found b h = ap (λ (c : Bool). part_in v.fragment (unwrap_or (cond c (Some e.1) (lookup (are_same_keys (key_of v)) es)) [])) h

-- ---- one more assignment

pub marks_put : (es fs : List ((ℕ × Option ℕ) × List (Option Bytes × Option ℕ))) (v : VarId) (x : Option ℕ) (ps made : List (Option Bytes × Option ℕ)) →
    ps ≡ unwrap_or (lookup (are_same_keys (key_of v)) es) [] →
    ((b : Option Bytes) → part_in b made ≡ part_in b ((v.fragment, x) ∷ ps)) →
    ((k : ℕ × Option ℕ) → lookup (are_same_keys k) fs ≡ cond (are_same_keys (key_of v) k) (Some made) (lookup (are_same_keys k) es)) →
    (marks : List (VarId × Option ℕ)) → MarksHold es marks → MarksHold fs ((v, x) ∷ marks)
marks_put es fs v x ps made is made_so put marks holds w =
    let k = key_of w in
    let found : (b : Bool) → are_same_keys (key_of v) k ≡ b →
    assigned_in w fs ≡ part_in w.fragment (unwrap_or (cond b (Some made) (lookup (are_same_keys k) es)) []) =
    λ b h. ap (λ (o : Option (List (Option Bytes × Option ℕ))). part_in w.fragment (unwrap_or o []))
    (put k ∙ ap (λ (c : Bool). cond c (Some made) (lookup (are_same_keys k) es)) h) in
    elim (cases_Bool (are_same_keys (key_of v) k)) as (λ _. assigned w ((v, x) ∷ marks) ≡ assigned_in w fs) [
      | inl t ↦
          let kept : assigned w marks ≡ part_in w.fragment ps = holds w
          ∙ ap (λ (l : ℕ × Option ℕ). part_in w.fragment (unwrap_or (lookup (are_same_keys l) es) [])) (sym (same_keys (key_of v) k t))
          ∙ ap (part_in w.fragment) (sym is) in
          at_same w v x marks (variables_are w v ∙ turned k (key_of v) ∙ t)
          ∙ ap (λ (y : Option ℕ). cond (are_same_bytes w.fragment v.fragment) x (cond (do_meet w.fragment v.fragment) None y)) kept
          ∙ sym (found true t ∙ made_so w.fragment)
      | inr f ↦ at_other w v x marks (variables_are w v ∙ turned k (key_of v) ∙ f) ∙ holds w ∙ sym (found false f)
    ]

-- ---- parts that a later one covers

same_bytes : (a b : Option Bytes) → are_same_bytes a b ≡ true → a ≡ b
same_bytes None None h = refl
same_bytes None (Some b) h = cc
same_bytes (Some a) None h = cc
same_bytes (Some a) (Some b) h =
    let both = and_parts (nat_eq a.offset b.offset) (nat_eq a.length b.length) h in
    λ i. Some (record { offset = eqb-true a.offset b.offset both.0 i; length = eqb-true a.length b.length both.1 i })

both : {c : Bool} → c ≡ true → c ≡ false → ⊥
both t f = cc

-- a covered part isn't seen from a part that doesn't overlap the later one
pub passes_over : (b part other : Option Bytes) (y rest : Option ℕ) → Covers part other → do_meet b part ≡ false →
    cond (are_same_bytes b other) y (cond (do_meet b other) None rest) ≡ rest
passes_over b part other y rest covers apart = by_same (cases_Bool (are_same_bytes b other)) (cases_Bool (do_meet b other)) where
  by_same : (are_same_bytes b other ≡ true) ⊎ (are_same_bytes b other ≡ false) → (do_meet b other ≡ true) ⊎ (do_meet b other ≡ false) →
      cond (are_same_bytes b other) y (cond (do_meet b other) None rest) ≡ rest
  by_same (inl t) m = absurd (both (subst (λ (c : Option Bytes). do_meet c part ≡ true) (sym (same_bytes b other t)) covers.0) apart)
  by_same (inr f) (inl t) = absurd (both (covers.1 b t) apart)
  by_same (inr f) (inr g) = ap (λ (c : Bool). cond c y (cond (do_meet b other) None rest)) f ∙ ap (λ (c : Bool). cond c None rest) g

pub dropped : (b part : Option Bytes) (o : Option Bytes × Option ℕ) (ms rest : List (Option Bytes × Option ℕ)) → Covers part o.0 → do_meet b part ≡ false →
    part_in b (ms ++ o ∷ rest) ≡ part_in b (ms ++ rest)
dropped b part o [] rest covers apart = passes_over b part o.0 o.1 (part_in b rest) covers apart
dropped b part o (m ∷ ms) rest covers apart =
    ap (λ (y : Option ℕ). cond (are_same_bytes b m.0) m.1 (cond (do_meet b m.0) None y)) (dropped b part o ms rest covers apart)

next_drop : (ps : List (Option Bytes × Option ℕ)) (i : ℕ) (o : Option Bytes × Option ℕ) → i < length ps → o ≡ get_or ps i o → drop i ps ≡ o ∷ drop (i + 1) ps
next_drop ps i o lt is =
    let next : i + 1 ≡ suc i = omega arith in
    drop-cons ps i o lt ∙ ap (λ (x : Option Bytes × Option ℕ). x ∷ drop (suc i) ps) (sym is) ∙ ap (λ (n : ℕ). o ∷ drop n ps) (sym next)

-- one turn: the next part is kept, or it is covered
pub turn_keeps : (b : Option Bytes) (kept ps : List (Option Bytes × Option ℕ)) (i : ℕ) (o : Option Bytes × Option ℕ) (t : Option ℕ) → i < length ps →
    o ≡ get_or ps i o →
    part_in b (kept ++ drop i ps) ≡ t → part_in b (kept ++ o ∷ [] ++ drop (i + 1) ps) ≡ t
turn_keeps b kept ps i o t lt is h = ap (part_in b) (append_assoc kept (o ∷ []) (drop (i + 1) ps) ∙ ap (λ ys. kept ++ ys) (sym (next_drop ps i o lt is))) ∙ h

pub turn_drops : (b part : Option Bytes) (kept ps : List (Option Bytes × Option ℕ)) (i : ℕ) (o : Option Bytes × Option ℕ) (t : Option ℕ) → i < length ps →
    o ≡ get_or ps i o → Covers part o.0 → do_meet b part ≡ false →
    part_in b (kept ++ drop i ps) ≡ t → part_in b (kept ++ drop (i + 1) ps) ≡ t
turn_drops b part kept ps i o t lt is covers apart h =
    sym (dropped b part o kept (drop (i + 1) ps) covers apart) ∙ ap (λ ys. part_in b (kept ++ ys)) (sym (next_drop ps i o lt is)) ∙ h

-- no part is left
pub kept_all : (b part : Option Bytes) (x : Option ℕ) (made kept ps : List (Option Bytes × Option ℕ)) (i : ℕ) → length ps ≤ i → made ≡ (part, x) ∷ kept →
    (do_meet b part ≡ false → part_in b (kept ++ drop i ps) ≡ part_in b ps) →
    part_in b made ≡ part_in b ((part, x) ∷ ps)
kept_all b part x made kept ps i le e h =
    ap (part_in b) e ∙ ap (λ (y : Option ℕ). cond (are_same_bytes b part) x y) (behind (cases_Bool (do_meet b part))) where
      behind : (do_meet b part ≡ true) ⊎ (do_meet b part ≡ false) → cond (do_meet b part) None (part_in b kept) ≡ cond (do_meet b part) None (part_in b ps)
      behind (inl t) = ap (λ (c : Bool). cond c None (part_in b kept)) t ∙ sym (ap (λ (c : Bool). cond c None (part_in b ps)) t)
      behind (inr f) = ap (λ (y : Option ℕ). cond (do_meet b part) None y)
          (sym (ap (part_in b) (ap (λ ys. kept ++ ys) (drop_all i ps le) ∙ append-nil kept)) ∙ h f)

pub covers_whole : (b : Option Bytes) → Covers None b
covers_whole None = (refl, λ c h. all c)
  where
    all : (c : Option Bytes) → do_meet c None ≡ true
    all None = refl
    all (Some a) = refl
covers_whole (Some b) = (refl, λ c h. all c)
  where
    all : (c : Option Bytes) → do_meet c None ≡ true
    all None = refl
    all (Some a) = refl

pub covers_inside : (a b : Bytes) → a.offset ≤ b.offset → b.offset + b.length ≤ a.offset + a.length → b.offset < b.offset + b.length → Covers (Some a) (Some b)
covers_inside a b first last some = (λ i. lt-ltb b.offset (a.offset + a.length) (omega arith) i && lt-ltb a.offset (b.offset + b.length) (omega arith) i, meets)
  where
    meets : (c : Option Bytes) → do_meet c (Some b) ≡ true → do_meet c (Some a) ≡ true
    meets None h = refl
    meets (Some c) h =
        let both = and_parts (nat_lt c.offset (b.offset + b.length)) (nat_lt b.offset (c.offset + c.length)) h in
        let x = ltb-true c.offset (b.offset + b.length) both.0 in
        let y = ltb-true b.offset (c.offset + c.length) both.1 in
        λ i. lt-ltb c.offset (a.offset + a.length) (omega (arith, x, last)) i && lt-ltb a.offset (c.offset + c.length) (omega (arith, y, first)) i
