-- Along a run, one token names one value.
use Rattle.std.proofs.Common.{◌≡◌, ℕ, zero, suc, List, ◌∷◌, Option, Some, None, Bool, true, false, cond, refl, sym, ap, ◌∙◌, subst, inl, inr, eqb, arith, ◌&&◌}
use Rattle.std.specs.Prelude.{slice_get, not, nat_lt, IsSome}
use borrow.Author.Tests.{ltb-true}
use Rattle.std.proofs.lemmas.Bool.{eqb-true, cases_Bool, and_parts}
use Rattle.rv64_instr.specs.declared.operand.Operand.{Operand}
use Rattle.rv64_instr.specs.declared.place.Place.{Place}
use Rattle.rv64_instr.specs.declared.place.Place.TheVariants.{Register, Slot, Const}
use Rattle.rv64_instr.specs.Arithmetic.{word}
use Rattle.rv64_instr.specs.Row.{row_of}
use Rattle.mir_func.specs.declared.debug_substitution.OperandPair.{OperandPair}
use Rattle.mir_func.specs.declared.variable.VarId.{VarId}
use Rattle.mir_func.specs.declared.variable.MarkValue.{MarkValue}
use Rattle.mir_func.specs.declared.variable.MarkValue.TheVariants.{Nothing, Constant, At, Pair}
use Rattle.mir_func.specs.declared.item.ItemKind.{ItemKind}
use Rattle.mir_func.specs.declared.item.ItemKind.TheVariants.{Code, Mark, Phi}
use Rattle.mir_func.specs.declared.position.Pos.{Pos}
use Rattle.sem_mir.specs.State.{Core, State, updated, content, assigned}
use Rattle.mir_func.specs.Variables.{is_same, overlaps}
use Rattle.sem_mir.specs.Step.{Outcome, Falls, Goes, Gives, Traps, Asks, Breaks, Went, moved, act, seen, defined, given, numbered, with_core}
use Rattle.sem_mir.specs.Step.{place_value, pair_value, mark_value, part_of, do_item, do_fetch, step, or_zero}
use Rattle.rv64_instr.specs.LocationEffects.{is_call}
use Rattle.mir_func.specs.Graph.{Fetch, Here, EndOfBlock, Outside, Program, below, block_start}
use Rattle.sem_mir.specs.ValueId.{Token, Entry, Made, Fixed, Tokens, register_token, code_tokens, given_token, numbered_tokens, place_token}
use Rattle.sem_mir.specs.ValueId.{pair_token, mark_token, after_item, after_fetch, entry_tokens}
use Rattle.sem_mir.proofs.Assignments.{same_is}
use Rattle.sem_value_ids.specs.Trace.{Trace, begin, onward, Names, NamesAlong, HasRegisters, TokensNameValues}
use Rattle.sem_value_ids.proofs.Naming.{in_part, Holds, IsOld, IsOlder, Good, AreOld, AgreeBelow, good_agree, extend, extend_agrees, old_later, are_old_later}
use Rattle.sem_value_ids.proofs.Rows.{GoesOn, AfterCode, code_names}

-- the next naming agrees with the present one on older tokens, and names what stands after the item
pub record Renamed (n : ℕ) (V : Token → ℕ) (t' : Tokens) (c' : Core) : Type 0 where
  pub value : Token → ℕ
  pub agrees : AgreeBelow n V value
  pub good : Good value t' c'
  pub old : AreOld (suc n) t'

holds_seen : (V : Token → ℕ) (sp : Bool) (r : ℕ) (t : Tokens) (c : Core) → register_token t.regs 2 ≡ None →
    Holds V (register_token t.regs r) (content c.regs r) → Holds V (register_token t.regs r) (seen sp r c)
holds_seen V true r t c pointer h = h
holds_seen V false r t c pointer h =
    elim (cases_Bool (eqb r 2)) as (λ z. Holds V (register_token t.regs r) (cond (eqb r 2) None (content c.regs r))) [
      | inl k ↦ subst (λ (q : ℕ). Holds V (register_token t.regs q) (cond (eqb r 2) None (content c.regs r))) (sym (eqb-true r 2 k))
          (subst (λ (z : Option Token). Holds V z (cond (eqb r 2) None (content c.regs r))) (sym pointer) tt)
      | inr k ↦ subst (λ (z : Bool). Holds V (register_token t.regs r) (cond z None (content c.regs r))) (sym k) h
    ]

holds_place : (V : Token → ℕ) (p : Option Place) (t : Tokens) (c : Core) → register_token t.regs 2 ≡ None → Good V t c →
    Holds V (place_token p t) (place_value p c)
holds_place V None t c pointer g = tt
holds_place V (Some (Register r)) t c pointer g = holds_seen V false r t c pointer (g.regs r)
holds_place V (Some (Slot n)) t c pointer g = g.slots n
holds_place V (Some (Const k)) t c pointer g = ap Some (sym (g.numbers (word k)))

old_place : (n : ℕ) (p : Option Place) (t : Tokens) → AreOld n t → IsOld n (place_token p t)
old_place n None t o = tt
old_place n (Some (Register r)) t o = o.regs r
old_place n (Some (Slot k)) t o = o.slots k
old_place n (Some (Const k)) t o = tt

holds_pair : (V : Token → ℕ) (q : Option OperandPair) (t : Tokens) (c : Core) → Good V t c → Holds V (pair_token q t) (pair_value q c)
holds_pair V None t c g = tt
holds_pair V (Some q) t c g = g.pairs q.number q.operand

old_pair : (n : ℕ) (q : Option OperandPair) (t : Tokens) → AreOld n t → IsOld n (pair_token q t)
old_pair n None t o = tt
old_pair n (Some q) t o = o.pairs q.number q.operand

holds_mark : (V : Token → ℕ) (g : Program) (m : MarkValue) (t : Tokens) (c : Core) → register_token t.regs 2 ≡ None → Good V t c →
    Holds V (mark_token g.resolve m t) (mark_value g m c)
holds_mark V g Nothing t c pointer good = tt
holds_mark V g (Constant k) t c pointer good = ap Some (sym (good.numbers (word k)))
holds_mark V g (At r) t c pointer good = holds_seen V g.sees_pointer r t c pointer (good.regs r)
holds_mark V g (Pair q) t c pointer good = holds_pair V (g.resolve q) t c good

old_mark : (n : ℕ) (resolve : OperandPair → Option OperandPair) (m : MarkValue) (t : Tokens) → AreOld n t → IsOld n (mark_token resolve m t)
old_mark n resolve Nothing t o = tt
old_mark n resolve (Constant k) t o = tt
old_mark n resolve (At r) t o = o.regs r
old_mark n resolve (Pair q) t o = old_pair n (resolve q) t o

-- a part gets the low bytes
holds_part : (V : Token → ℕ) (v : VarId) (x : Option Token) (y : Option ℕ) → Holds V x y → Holds (in_part v V) x (part_of v y)
holds_part V v None y h = tt
holds_part V v (Some k) y h = ap (part_of v) h

-- after a mark of v
holds_marked : (V : Token → ℕ) (v w : VarId) (x : Option Token) (y : Option ℕ) (ts : List (VarId × Option Token)) (cs : List (VarId × Option ℕ)) →
    Holds V x y → Holds (in_part w V) (assigned w ts) (assigned w cs) → Holds (in_part w V) (assigned w ((v, x) ∷ ts)) (assigned w ((v, part_of v y) ∷ cs))
holds_marked V v w x y ts cs h older = by_case (is_same w v) (overlaps w v) refl where
  by_case : (same over : Bool) → is_same w v ≡ same →
      Holds (in_part w V) (cond same x (cond over None (assigned w ts))) (cond same (part_of v y) (cond over None (assigned w cs)))
  by_case true over e = subst (λ (u : VarId). Holds (in_part u V) x (part_of v y)) (sym (same_is w v e)) (holds_part V v x y h)
  by_case false true e = tt
  by_case false false e = older

old_marked : (n : ℕ) (v w : VarId) (x : Option Token) (ts : List (VarId × Option Token)) → IsOld n x → IsOld n (assigned w ts) →
    IsOld n (assigned w ((v, x) ∷ ts))
old_marked n v w x ts h older = by_case (is_same w v) (overlaps w v) where
  by_case : (same over : Bool) → IsOld n (cond same x (cond over None (assigned w ts)))
  by_case true over = h
  by_case false true = tt
  by_case false false = older

-- a mark
mark_names : (V : Token → ℕ) (n : ℕ) (g : Program) (v : VarId) (m : MarkValue) (t : Tokens) (c : Core) → AreOld n t → Good V t c →
    Renamed n V (after_item g.resolve n (Mark v m) t) (record c { marks = (v, part_of v (mark_value g m c)) ∷ c.marks })
mark_names V n g v m t c o good = record {
  value = V;
  agrees = λ k old. refl;
  good = record {
    numbers = good.numbers;
    regs = good.regs;
    slots = good.slots;
    pairs = good.pairs;
    variables = λ w. holds_marked V v w (mark_token g.resolve m t) (mark_value g m c) t.marks c.marks (holds_mark V g m t c o.pointer good) (good.variables w);
  };
  old = record {
    regs = λ r. old_later n _ (o.regs r);
    slots = λ k. old_later n _ (o.slots k);
    pairs = λ k p. old_later n _ (o.pairs k p);
    variables = λ w. old_later n _ (old_marked n v w (mark_token g.resolve m t) t.marks (old_mark n g.resolve m t o) (o.variables w));
    pointer = o.pointer;
  };
}

holds_pairs : (V : Token → ℕ) (k : ℕ) (x : ℕ → Option Token) (y : ℕ → Option ℕ) (ts : ℕ → ℕ → Option Token) (cs : ℕ → ℕ → Option ℕ) →
    ((o : ℕ) → Holds V (x o) (y o)) → ((q o : ℕ) → Holds V (ts q o) (cs q o)) →
    (q o : ℕ) → Holds V (updated k x ts q o) (updated k y cs q o)
holds_pairs V k x y ts cs h all q o = elim (eqb q k) as (λ b. Holds V (cond b x (ts q) o) (cond b y (cs q) o)) [ true ↦ h o | false ↦ all q o ]

old_pairs : (n k : ℕ) (x : ℕ → Option Token) (ts : ℕ → ℕ → Option Token) → ((o : ℕ) → IsOld n (x o)) → ((q o : ℕ) → IsOld n (ts q o)) → (q o : ℕ) →
    IsOld n (updated k x ts q o)
old_pairs n k x ts h all q o = elim (eqb q k) as (λ b. IsOld n (cond b x (ts q) o)) [ true ↦ h o | false ↦ all q o ]

-- a phi
phi_names : (V : Token → ℕ) (n : ℕ) (g : Program) (p : Option Place) (k : ℕ) (t : Tokens) (c : Core) → AreOld n t → Good V t c →
    Renamed n V (after_item g.resolve n (Phi p k) t) (record c { pairs = updated k (updated 0 (place_value p c) (c.pairs k)) c.pairs })
phi_names V n g p k t c o good = record {
  value = V;
  agrees = λ j old. refl;
  good = record {
    numbers = good.numbers;
    regs = good.regs;
    slots = good.slots;
    pairs = holds_pairs V k (updated 0 (place_token p t) (t.pairs k)) (updated 0 (place_value p c) (c.pairs k)) t.pairs c.pairs
        (λ q. elim (eqb q 0) as (λ b. Holds V (cond b (place_token p t) (t.pairs k q)) (cond b (place_value p c) (c.pairs k q))) [
          | true ↦ holds_place V p t c o.pointer good
          | false ↦ good.pairs k q
        ]) good.pairs;
    variables = good.variables;
  };
  old = record {
    regs = λ r. old_later n _ (o.regs r);
    slots = λ j. old_later n _ (o.slots j);
    pairs = old_pairs (suc n) k (updated 0 (place_token p t) (t.pairs k)) t.pairs
        (λ q. elim (eqb q 0) as (λ b. IsOld (suc n) (cond b (place_token p t) (t.pairs k q))) [
          | true ↦ old_later n _ (old_place n p t o)
          | false ↦ old_later n _ (o.pairs k q)
        ])
        (λ j q. old_later n _ (o.pairs j q));
    variables = λ w. old_later n _ (o.variables w);
    pointer = o.pointer;
  };
}

holds_given : (V : Token → ℕ) (sp : Bool) (d : Option ℕ) (x : Option Token) (y : Option ℕ) (t : Tokens) (c : Core) → register_token t.regs 2 ≡ None →
    ((r : ℕ) → Holds V (register_token t.regs r) (content c.regs r)) → Holds V x y →
    Holds V (given_token d x t) (given sp d y c)
holds_given V sp None x y t c pointer regs h = h
holds_given V sp (Some r) x y t c pointer regs h = holds_seen V sp r t c pointer (regs r)

old_given : (n : ℕ) (d : Option ℕ) (x : Option Token) (t : Tokens) → ((r : ℕ) → IsOld n (register_token t.regs r)) → IsOld n x → IsOld n (given_token d x t)
old_given n None x t regs h = h
old_given n (Some r) x t regs h = regs r

-- the history that code leaves is named as before
whole : (V : Token → ℕ) (n : ℕ) (t t' : Tokens) (c c' : Core) → AreOld n t → Good V t c → AfterCode n V t t' c c' → Renamed n V t' c'
whole V n t t' c c' o g a =
    let W = extend n c'.regs V in
    let h = good_agree n V W t c (extend_agrees n c'.regs V) o g in
    record {
      value = W;
      agrees = extend_agrees n c'.regs V;
      good = record {
        numbers = h.numbers;
        regs = a.regs;
        slots = a.slots;
        pairs = λ k p. subst (λ (z : ℕ → ℕ → Option Token). Holds W (z k p) (c'.pairs k p)) (sym a.token_pairs)
            (subst (λ (z : ℕ → ℕ → Option ℕ). Holds W (t.pairs k p) (z k p)) (sym a.pairs) (h.pairs k p));
        variables = λ v. subst (λ (z : List (VarId × Option Token)). Holds (in_part v W) (assigned v z) (assigned v c'.marks)) (sym a.token_marks)
            (subst (λ (z : List (VarId × Option ℕ)). Holds (in_part v W) (assigned v t.marks) (assigned v z)) (sym a.marks) (h.variables v));
      };
      old = record {
        regs = a.old_regs;
        slots = a.old_slots;
        pairs = λ k p. subst (λ (z : ℕ → ℕ → Option Token). IsOld (suc n) (z k p)) (sym a.token_pairs) (old_later n _ (o.pairs k p));
        variables = λ v. subst (λ (z : List (VarId × Option Token)). IsOld (suc n) (assigned v z)) (sym a.token_marks) (old_later n _ (o.variables v));
        pointer = a.pointer;
      };
    }

-- the pairs of code with a number
number_names : (n : ℕ) (V : Token → ℕ) (sp call : Bool) (k : Option ℕ) (operands : List Operand) (t : Tokens) (c : Core) → Renamed n V t c →
    Renamed n V (numbered_tokens call k operands t) (numbered sp call k operands c)
number_names n V sp call None operands t c r = r
number_names n V sp call (Some k) operands t c r = record {
  value = r.value;
  agrees = r.agrees;
  good = record {
    numbers = r.good.numbers;
    regs = r.good.regs;
    slots = r.good.slots;
    pairs = holds_pairs r.value k _ _ t.pairs c.pairs
        (λ o. holds_given r.value sp (defined call (slice_get operands o)) _ _ t c r.old.pointer r.good.regs (r.good.pairs k o)) r.good.pairs;
    variables = r.good.variables;
  };
  old = record {
    regs = r.old.regs;
    slots = r.old.slots;
    pairs = old_pairs (suc n) k _ t.pairs (λ o. old_given (suc n) (defined call (slice_get operands o)) _ t r.old.regs (r.old.pairs k o))
        r.old.pairs;
    variables = r.old.variables;
    pointer = r.old.pointer;
  };
}

goes_on : (f : Core → Core) (x : Outcome) (c' : Core) → GoesOn (with_core f x) c' → (d : Core) × GoesOn x d × (f d ≡ c')
goes_on f (Falls d) c' e = (d, refl, e)
goes_on f (Goes n d) c' e = (d, refl, e)
goes_on f (Gives v) c' e = absurd e
goes_on f Traps c' e = absurd e
goes_on f Asks c' e = absurd e
goes_on f Breaks c' e = absurd e

-- one item
pub item_names : (V : Token → ℕ) (n : ℕ) (g : Program) (k : ItemKind) (t : Tokens) (c c' : Core) → AreOld n t → Good V t c → GoesOn (do_item g k c) c' →
    Renamed n V (after_item g.resolve n k t) c'
item_names V n g (Code i k) t c c' o good e =
    let call = is_call (row_of i) in
    let (d, went, same) = goes_on (numbered g.sees_pointer call k i.operands) (act (row_of i) c) c' e in
    subst (λ (z : Core). Renamed n V (after_item g.resolve n (Code i k) t) z) same
    (number_names n V g.sees_pointer call k i.operands (code_tokens n (row_of i) t) d
    (whole V n t (code_tokens n (row_of i) t) c d o good (code_names V n (row_of i) t c d o good went)))
item_names V n g (Mark v m) t c c' o good e = subst (λ (z : Core). Renamed n V (after_item g.resolve n (Mark v m) t) z) e (mark_names V n g v m t c o good)
item_names V n g (Phi p k) t c c' o good e = subst (λ (z : Core). Renamed n V (after_item g.resolve n (Phi p k) t) z) e (phi_names V n g p k t c o good)

renamed_same : (n : ℕ) (V : Token → ℕ) (t : Tokens) (c : Core) → AreOld n t → Good V t c → Renamed n V t c
renamed_same n V t c o g = record { value = V; agrees = λ k old. refl; good = g; old = are_old_later n t o }

went_on : (enter : ℕ → ℕ) (p : Pos) (x : Outcome) (u : State) → moved enter p x ≡ Went u → GoesOn x u.core
went_on enter p (Falls d) u e = let f : State = record { pos = below p; core = d } in let same : f ≡ u = cc in ap (λ (z : State). z.core) same
went_on enter p (Goes n d) u e = let f : State = record { pos = block_start (enter n); core = d } in let same : f ≡ u = cc in ap (λ (z : State). z.core) same
went_on enter p (Gives v) u e = absurd (cc)
went_on enter p Traps u e = absurd (cc)
went_on enter p Asks u e = absurd (cc)
went_on enter p Breaks u e = absurd (cc)

fetch_names : (V : Token → ℕ) (n : ℕ) (g : Program) (x : Fetch) (t : Tokens) (c c' : Core) → AreOld n t → Good V t c → GoesOn (do_fetch g x c) c' →
    Renamed n V (after_fetch g.resolve n x t) c'
fetch_names V n g (Here i) t c c' o good e = item_names V n g i.kind t c c' o good e
fetch_names V n g (EndOfBlock k m) t c c' o good e = subst (λ (z : Core). Renamed n V t z) e (renamed_same n V t c o good)
fetch_names V n g Outside t c c' o good e = absurd e

-- one step
pub step_names : (V : Token → ℕ) (n : ℕ) (g : Program) (s u : State) (t : Tokens) → AreOld n t → Good V t s.core → step g s ≡ Went u →
    Renamed n V (after_fetch g.resolve n (g.fetch s.pos) t) u.core
step_names V n g s u t o good e = fetch_names V n g (g.fetch s.pos) t s.core u.core o good (went_on g.enter s.pos (do_fetch g (g.fetch s.pos) s.core) u e)

holds_names : (V : Token → ℕ) (x : Option Token) (y : Option ℕ) (k : Token) → Holds V x y → x ≡ Some k → y ≡ Some (V k)
holds_names V None y k h e = absurd (cc)
holds_names V (Some j) y k h e = let f : j ≡ k = cc in h ∙ ap (λ (z : Token). Some (V z)) f

pub good_names : (V : Token → ℕ) (t : Tokens) (c : Core) → Good V t c → Names V t c
good_names V t c g = record {
  numbers = g.numbers;
  regs = λ r k e. holds_names V _ _ k (g.regs r) e;
  slots = λ n k e. holds_names V _ _ k (g.slots n) e;
  pairs = λ n o k e. holds_names V _ _ k (g.pairs n o) e;
  variables = λ v k e. holds_names (in_part v V) _ _ k (g.variables v) e;
}

-- what is known at the end of a trace
record Named {g : Program} {start : State} {n : ℕ} {s : State} {t : Tokens} (trace : Trace g start n s t) : Type 0 where
  value : Token → ℕ
  good : Good value t s.core
  old : AreOld n t
  along : (W : Token → ℕ) → AgreeBelow n value W → NamesAlong W trace

older_later : (n : ℕ) (k : Token) → IsOlder n k → IsOlder (suc n) k
older_later n (Entry r) o = tt
older_later n (Made m r) o = omega arith
older_later n (Fixed c) o = tt

-- the values at the start: the registers' own
entry_value : State → Token → ℕ
entry_value s (Entry r) = or_zero (content s.core.regs r)
entry_value s (Made m r) = 0
entry_value s (Fixed c) = c

some_or_zero : (o : Option ℕ) → IsSome o → o ≡ Some (or_zero o)
some_or_zero None h = cc
some_or_zero (Some n) h = refl

holds_entry : (s : State) (r : ℕ) → HasRegisters s → Holds (entry_value s) (register_token entry_tokens.regs r) (content s.core.regs r)
unfolding entry_value
holds_entry s zero h = refl
holds_entry s (suc r) h = by_case (nat_lt (suc r) 32 && not (eqb (suc r) 2)) refl where
  by_case : (z : Bool) → (nat_lt (suc r) 32 && not (eqb (suc r) 2)) ≡ z → Holds (entry_value s) (cond z (Some (Entry (suc r))) None) (s.core.regs (suc r))
  by_case true e = some_or_zero (s.core.regs (suc r)) (h (suc r) (ltb-true (suc r) 32 (and_parts (nat_lt (suc r) 32) (not (eqb (suc r) 2)) e).0))
  by_case false e = tt

old_entry : (r : ℕ) → IsOld 0 (register_token entry_tokens.regs r)
old_entry zero = tt
old_entry (suc r) = elim (nat_lt (suc r) 32 && not (eqb (suc r) 2)) as (λ z. IsOld 0 (cond z (Some (Entry (suc r))) None)) [ true ↦ tt | false ↦ tt ]

entry_good : (s : State) → HasRegisters s → Good (entry_value s) entry_tokens s.core
entry_good s h = record {
  numbers = λ k. unfold entry_value in refl;
  regs = λ r. holds_entry s r h;
  slots = λ k. tt;
  pairs = λ k o. tt;
  variables = λ v. tt;
}

named : {g : Program} {start : State} {n : ℕ} {s : State} {t : Tokens} → HasRegisters start → (trace : Trace g start n s t) → Named trace
named {start = start} h begin =
    let good : Good (entry_value start) entry_tokens start.core = entry_good start h in
    record {
      value = entry_value start;
      good = good;
      old = record { regs = old_entry; slots = λ k. tt; pairs = λ k o. tt; variables = λ v. tt; pointer = refl };
      along = λ W same. good_names W entry_tokens start.core (good_agree 0 (entry_value start) W entry_tokens start.core same
          (record { regs = old_entry; slots = λ k. tt; pairs = λ k o. tt; variables = λ v. tt; pointer = refl }) good);
    }
named {g = g} h (onward {n} {s} {u} {t} trace e) =
    let p = named h trace in
    let r = step_names p.value n g s u t p.old p.good e in
    record {
      value = r.value;
      good = r.good;
      old = r.old;
      along = λ W same. (
        p.along W (λ k old. same k (older_later n k old) ∙ r.agrees k old),
        good_names W _ _ (good_agree (suc n) r.value W _ _ same r.old r.good),
      );
    }

pub tokens_name_values : TokensNameValues
tokens_name_values g start h n s t trace = let p = named h trace in (p.value, p.along p.value (λ k old. refl))
