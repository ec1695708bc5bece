-- A run that is another one but for what it tells: it tells less, where marks see less.
use Rattle.std.proofs.Common.{◌≡◌, ℕ, List, ◌∷◌, Option, Some, None, Bool, true, false, cond, nat_eq, slice_get, refl, sym, ap, ◌∙◌, subst}
use Rattle.mir_func.specs.rv64_instr.declared.operand.Operand.{Operand}
use Rattle.mir_func.specs.rv64_instr.declared.place.Place.{Place}
use Rattle.mir_func.specs.rv64_instr.declared.place.Place.TheVariants.{Register, Slot, Const}
use Rattle.mir_func.specs.rv64_instr.Row.{Row, row_of}
use Rattle.mir_func.specs.declared.debug_substitution.OperandPair.{OperandPair}
use Rattle.mir_func.specs.declared.variable.VarId.{VarId}
use Rattle.mir_func.specs.declared.variable.MarkValue.{MarkValue}
use Rattle.mir_func.specs.declared.variable.MarkValue.TheVariants.{Nothing, Constant, At, Pair}
use Rattle.mir_func.specs.declared.item.ItemKind.{ItemKind}
use Rattle.mir_func.specs.declared.item.ItemKind.TheVariants.{Code, Mark, Phi}
use Rattle.sem_mir.specs.State.{State, Core, updated, assigned}
use Rattle.mir_func.specs.Variables.{is_same, overlaps}
use Rattle.sem_mir.specs.Step.{Went, Outcome, Falls, Goes, Gives, Traps, Asks, Breaks, moved, with_core, act, seen, defined, given, numbered, place_value}
use Rattle.sem_mir.specs.Step.{pair_value, mark_value, part_of, do_item, do_fetch, step}
use Rattle.mir_func.specs.rv64_instr.LocationEffects.{is_call}
use Rattle.mir_func.specs.Graph.{Program, Fetch, Here, EndOfBlock, Outside}
use Rattle.sem_mir.specs.Align.{Agrees}
use Rattle.sem_mir.specs.Effects.{EndAlike}
use Rattle.sem_mir.proofs.Outcomes.{alike_went, alike_returns, alike_faults}
use Rattle.sem_mir.proofs.Effects.{told_by, act_apart}

-- where the second has a value, the first has it too
abbrev pub Below : Option ℕ → Option ℕ → Type 0
Below x y = (v : ℕ) → y ≡ Some v → x ≡ Some v

-- d is c but for pairs and marks, and there it has less
pub record TellsLess (c d : Core) : Type 0 where
  pub same : told_by d.pairs d.marks c ≡ d
  pub pairs : (k o : ℕ) → Below (c.pairs k o) (d.pairs k o)
  pub marks : (v : VarId) → Below (assigned v c.marks) (assigned v d.marks)

pub tells_itself : (c : Core) → TellsLess c c
tells_itself c = record { same = refl; pairs = λ k o v e. e; marks = λ x v e. e }

-- c is another core but for pairs and marks, which it has from c0
abbrev IsFrom : Core → Core → Type 0
IsFrom c0 c = told_by c0.pairs c0.marks c ≡ c

same_parts : (p : ℕ → ℕ → Option ℕ) (m : List (VarId × Option ℕ)) (c d : Core) → told_by p m c ≡ d → (d.pairs ≡ p) × (d.marks ≡ m)
same_parts p m c d e = (ap (λ (z : Core). z.pairs) (sym e), ap (λ (z : Core). z.marks) (sym e))

-- code of one row: the rest alike, pairs and marks untouched
act_less : (r : Row) (c d : Core) → TellsLess c d → EndAlike TellsLess (act r c) (act r d)
act_less r c d h = subst (EndAlike TellsLess (act r c)) (sym (act_apart d.pairs d.marks r c) ∙ ap (act r) h.same)
    (by_outcome (act r c) (act_apart c.pairs c.marks r c)) where
      by_core : (e : Core) → told_by c.pairs c.marks e ≡ e → TellsLess e (told_by d.pairs d.marks e)
      by_core e k = record {
        same = refl;
        pairs = λ n o v p. subst (λ (z : Core). z.pairs n o ≡ Some v) k (h.pairs n o v p);
        marks = λ x v p. subst (λ (z : Core). assigned x z.marks ≡ Some v) k (h.marks x v p);
      }

      by_outcome : (x : Outcome) → x ≡ with_core (told_by c.pairs c.marks) x → EndAlike TellsLess x (with_core (told_by d.pairs d.marks) x)
      by_outcome (Falls e) k = let k' : e ≡ told_by c.pairs c.marks e = cc in by_core e (sym k')
      by_outcome (Goes n e) k = let k' : e ≡ told_by c.pairs c.marks e = cc in (refl, by_core e (sym k'))
      by_outcome (Gives v) k = refl
      by_outcome Traps k = tt
      by_outcome Asks k = tt
      by_outcome Breaks k = tt

-- h's marks and numbers see no more than g's, and its pairs resolve alike
pub record SeesLess (g h : Program) : Type 0 where
  pub sees : (r : ℕ) (c : Core) → Below (seen g.sees_pointer r c) (seen h.sees_pointer r c)
  pub resolve : (q : OperandPair) → h.resolve q ≡ g.resolve q

seen_same : (sp : Bool) (r : ℕ) (c d : Core) → TellsLess c d → seen sp r d ≡ seen sp r c
seen_same sp r c d h = ap (seen sp r) (sym h.same) ∙ by_sight sp where
  by_sight : (b : Bool) → seen b r (told_by d.pairs d.marks c) ≡ seen b r c
  by_sight true = refl
  by_sight false = refl

module _ (g h : Program) (less : SeesLess g h) where
  seen_less : (r : ℕ) (c d : Core) → TellsLess c d → Below (seen g.sees_pointer r c) (seen h.sees_pointer r d)
  seen_less r c d t v e = less.sees r c v (sym (seen_same h.sees_pointer r c d t) ∙ e)

  given_less : (x : Option ℕ) (a b : Option ℕ) (c d : Core) → TellsLess c d → Below a b → Below (given g.sees_pointer x a c) (given h.sees_pointer x b d)
  given_less None a b c d t k = k
  given_less (Some r) a b c d t k = seen_less r c d t

  -- other pairs or marks
  pairs_less : (c d : Core) (p q : ℕ → ℕ → Option ℕ) → TellsLess c d → ((k o : ℕ) → Below (p k o) (q k o)) →
      TellsLess (record c { pairs = p }) (record d { pairs = q })
  pairs_less c d p q t k = record { same = ap (λ (z : Core). record z { pairs = q }) t.same; pairs = k; marks = t.marks }

  marks_less : (c d : Core) (p q : List (VarId × Option ℕ)) → TellsLess c d → ((v : VarId) → Below (assigned v p) (assigned v q)) →
      TellsLess (record c { marks = p }) (record d { marks = q })
  marks_less c d p q t k = record { same = ap (λ (z : Core). record z { marks = q }) t.same; pairs = t.pairs; marks = k }

  updated_less : (k : ℕ) (a b : ℕ → Option ℕ) (p q : ℕ → ℕ → Option ℕ) → ((o : ℕ) → Below (a o) (b o)) → ((m o : ℕ) → Below (p m o) (q m o)) → (m o : ℕ) →
      Below (updated k a p m o) (updated k b q m o)
  updated_less k a b p q x y m o = by_test (nat_eq m k) where
    by_test : (z : Bool) → Below (cond z a (p m) o) (cond z b (q m) o)
    by_test true = x o
    by_test false = y m o

  entry_less : (k : ℕ) (a b : Option ℕ) (p q : ℕ → Option ℕ) → Below a b → ((o : ℕ) → Below (p o) (q o)) → (o : ℕ) → Below (updated k a p o) (updated k b q o)
  entry_less k a b p q x y o = by_test (nat_eq o k) where
    by_test : (z : Bool) → Below (cond z a (p o)) (cond z b (q o))
    by_test true = x
    by_test false = y o

  mark_less : (v : VarId) (a b : Option ℕ) (p q : List (VarId × Option ℕ)) → Below a b → ((w : VarId) → Below (assigned w p) (assigned w q)) → (w : VarId) →
      Below (assigned w ((v, a) ∷ p)) (assigned w ((v, b) ∷ q))
  mark_less v a b p q x y w = by_test (is_same w v) (overlaps w v) where
    by_test : (same over : Bool) → Below (cond same a (cond over None (assigned w p))) (cond same b (cond over None (assigned w q)))
    by_test true over n e = x n e
    by_test false true n e = cc
    by_test false false n e = y w n e

  numbered_less : (call : Bool) (n : Option ℕ) (os : List Operand) (c d : Core) → TellsLess c d → TellsLess (numbered g.sees_pointer call n os c)
      (numbered h.sees_pointer call n os d)
  numbered_less call None os c d t = t
  numbered_less call (Some k) os c d t =
      pairs_less c d _ _ t (updated_less k (λ o. given g.sees_pointer (defined call (slice_get os o)) (c.pairs k o) c)
      (λ o. given h.sees_pointer (defined call (slice_get os o)) (d.pairs k o) d) c.pairs d.pairs
      (λ o. given_less (defined call (slice_get os o)) (c.pairs k o) (d.pairs k o) c d t (t.pairs k o)) t.pairs)

  place_less : (p : Option Place) (c d : Core) → TellsLess c d → Below (place_value p c) (place_value p d)
  place_less None c d t v e = cc
  place_less (Some (Register r)) c d t v e = sym (seen_same false r c d t) ∙ e
  place_less (Some (Slot n)) c d t v e = ap (λ (z : Core). z.slots n) t.same ∙ e
  place_less (Some (Const z)) c d t v e = e

  pair_less : (q : Option OperandPair) (c d : Core) → TellsLess c d → Below (pair_value q c) (pair_value q d)
  pair_less None c d t v e = cc
  pair_less (Some q) c d t v e = t.pairs q.number q.operand v e

  value_less : (m : MarkValue) (c d : Core) → TellsLess c d → Below (mark_value g m c) (mark_value h m d)
  value_less Nothing c d t v e = cc
  value_less (Constant z) c d t v e = e
  value_less (At r) c d t v e = seen_less r c d t v e
  value_less (Pair q) c d t v e = pair_less (g.resolve q) c d t v (ap (λ (r : Option OperandPair). pair_value r d) (sym (less.resolve q)) ∙ e)

  part_less : (w : VarId) (a b : Option ℕ) → Below a b → Below (part_of w a) (part_of w b)
  part_less w a None k v e = cc
  part_less w a (Some x) k v e = ap (part_of w) (k x refl) ∙ e

  with_less : (j k : Core → Core) → ((c d : Core) → TellsLess c d → TellsLess (j c) (k d)) → (x y : Outcome) → EndAlike TellsLess x y →
      EndAlike TellsLess (with_core j x) (with_core k y)
  with_less j k f x y e = Rattle.sem_mir.proofs.Outcomes.alike_with TellsLess TellsLess j k f x y e

  pub item_less : (k : ItemKind) (c d : Core) → TellsLess c d → EndAlike TellsLess (do_item g k c) (do_item h k d)
  item_less (Code i n) c d t =
      with_less (numbered g.sees_pointer (is_call (row_of i)) n i.operands) (numbered h.sees_pointer (is_call (row_of i)) n i.operands)
      (λ c' d' t'. numbered_less (is_call (row_of i)) n i.operands c' d' t') (act (row_of i) c) (act (row_of i) d) (act_less (row_of i) c d t)
  item_less (Mark v m) c d t = marks_less c d _ _ t
      (mark_less v (part_of v (mark_value g m c)) (part_of v (mark_value h m d)) c.marks d.marks
      (part_less v (mark_value g m c) (mark_value h m d) (value_less m c d t)) t.marks)
  item_less (Phi p n) c d t =
      pairs_less c d _ _ t (updated_less n (updated 0 (place_value p c) (c.pairs n)) (updated 0 (place_value p d) (d.pairs n)) c.pairs d.pairs
      (entry_less 0 (place_value p c) (place_value p d) (c.pairs n) (d.pairs n) (place_less p c d t) (t.pairs n)) t.pairs)

  fetch_less : (x : Fetch) (c d : Core) → TellsLess c d → EndAlike TellsLess (do_fetch g x c) (do_fetch h x d)
  fetch_less (Here i) c d t = item_less i.kind c d t
  fetch_less (EndOfBlock k n) c d t = (refl, t)
  fetch_less Outside c d t = tt

  -- g and h have the same items: then from one position they step alike
  pub record Beside (t u : State) : Type 0 where
    pub pos : t.pos ≡ u.pos
    pub tells : TellsLess u.core t.core

  module _ (fetch : h.fetch ≡ g.fetch) (enter : h.enter ≡ g.enter) where
    step_from : (t u : State) → t.pos ≡ u.pos → step h t ≡ moved g.enter u.pos (do_fetch h (g.fetch u.pos) t.core)
    step_from t u e i = moved (enter i) (e i) (do_fetch h (fetch i (e i)) t.core)

    pub goes_beside : (t u t' : State) → Beside t u → step h t ≡ Went t' → (u' : State) × (step g u ≡ Went u') × Beside t' u'
    goes_beside t u t' b go =
        let z = alike_went TellsLess g.enter u.pos (do_fetch g (g.fetch u.pos) u.core) (do_fetch h (g.fetch u.pos) t.core)
        (fetch_less (g.fetch u.pos) u.core t.core b.tells) t' (sym (step_from t u b.pos) ∙ go) in
        (z.0, z.1, record { pos = z.2; tells = z.3 })

    pub agrees_beside : (t u : State) → Beside t u → Agrees g h t u
    agrees_beside t u b =
        let k = fetch_less (g.fetch u.pos) u.core t.core b.tells in
        let x = do_fetch g (g.fetch u.pos) u.core in
        let y = do_fetch h (g.fetch u.pos) t.core in
        record {
          events = ap (λ (z : Core). z.events) (sym b.tells.same);
          told = λ v n e. b.tells.marks v n e;
          returns = λ v e. alike_returns TellsLess g.enter u.pos x y k v (sym (step_from t u b.pos) ∙ e);
          faults = λ e. alike_faults TellsLess g.enter u.pos x y k (sym (step_from t u b.pos) ∙ e);
        }
