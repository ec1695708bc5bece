-- What is read up to a copy is the spelling of one row, and what is read up to an end is that of an end:
-- first a register with its opcode, then the address, then the closing opcode, then all of them, each in both directions.
use Rattle.std.specs.Prelude.{pos, ◌-ℤ◌, ◌⊎◌, ◌&&◌, not, IsTrue}
use Rattle.std.proofs.Common.{◌≡◌, ◌≢◌, ℕ, suc, ◌-◌, ◌^◌, ◌<◌, ◌≤◌, Bool, true, false, cond, eqb, List, [], ◌∷◌, ◌++◌, length, Option, Some, None, Result, Ok}
use Rattle.std.proofs.Common.{Err, arith, ap, subst, sym, ◌∙◌, refl, inl, inr, append_assoc, eq-eqb, eqb-true}
use Rattle.std.proofs.lemmas.Bool.{eqb-false, ne_eqb, cases_Bool}
use Rattle.dwarf_base.specs.Leb.{uleb_of, sleb_of}
use Rattle.dwarf_line.specs.declared.table.Row.{Row}
use Rattle.dwarf_line.specs.declared.read.Advance.{Advance}
use Rattle.dwarf_line.specs.declared.read.Group.{Group}
use Rattle.dwarf_line.specs.declared.read.Group.TheVariants.{Copied, Ended}
use Rattle.dwarf_line.specs.Table.{IsRow}
use Rattle.dwarf_line.specs.Spelling.{changing, set_file, set_column, advance_pc, advance_line, end_sequence, row}
use Rattle.dwarf_line.specs.Fields.{◌>>=◌, constants_at, uleb_at, advanced_at, line_at}
use Rattle.dwarf_line.specs.FirstFault.{register_at, advance_at, copied_at, ended_at, closed_at, group_at}
use Rattle.dwarf_line.proofs.Numbers.{uleb_takes, uleb_again, advanced_takes, advanced_again, line_takes, line_again}

-- ---- steps that did not fail

pub bind_ok : {A B : Type 0} (r : Result A ℕ) (f : A → Result B ℕ) (y : B) → (r >>= f) ≡ Ok y → (x : A) × (r ≡ Ok x) × (f x ≡ Ok y)
bind_ok (Ok x) f y e = (x, refl, e)
bind_ok (Err d) f y e = absurd cc

pub chosen : {A : Type 0} (b : Bool) (x y z : A) → cond b x y ≡ z → ((b ≡ true) × (x ≡ z)) ⊎ ((b ≡ false) × (y ≡ z))
chosen true x y z e = inl (refl, e)
chosen false x y z e = inr (refl, e)

abbrev done : {A : Type 0} → A → Result A ℕ
done x = Ok x

abbrev failed : {A : Type 0} → ℕ → Result A ℕ
failed left = Err left

pub ok_is : {A : Type 0} (x y : A) → done x ≡ done y → x ≡ y
ok_is x y e = cc

pub not_ok : {A : Type 0} (left : ℕ) (x : A) → failed left ≡ done x → ⊥
not_ok left x e = cc

abbrev number : ℕ → List ℕ → Result (ℕ × List ℕ) ℕ
number n rest = Ok (n, rest)

abbrev wrong : ℕ → Result (ℕ × List ℕ) ℕ
wrong left = Err left

-- ---- a register and its opcode

-- a reader of an operand takes what has this spelling and fits, and nothing else
pub record IsOperand (read : List ℕ → Result (ℕ × List ℕ) ℕ) (spell : ℕ → List ℕ) (Fits : ℕ → Type 0) : Type 0 where
  pub takes : (bytes : List ℕ) (n : ℕ) (rest : List ℕ) → read bytes ≡ Ok (n, rest) → (bytes ≡ spell n ++ rest) × Fits n
  pub again : (n : ℕ) (rest : List ℕ) → Fits n → read (spell n ++ rest) ≡ Ok (n, rest)

pub small : IsOperand (uleb_at (2 ^ 32)) uleb_of (λ n. n < 2 ^ 32)
small = record { takes = uleb_takes (2 ^ 32); again = uleb_again (2 ^ 32) }

to_line : (from : ℕ) → IsOperand (line_at from) (λ to. sleb_of (pos to -ℤ pos from)) (λ n. n < 2 ^ 32)
to_line from = record { takes = line_takes from; again = line_again from }

-- the bytes don't begin with an opcode
abbrev pub Other : ℕ → List ℕ → Type 0
Other opcode [] = Unit {0}
Other opcode (b ∷ bytes) = b ≢ opcode

unchanged : (n : ℕ) (x : List ℕ) → changing n n x ≡ []
unchanged n x = ap (λ b. cond b [] x) (eq-eqb n n refl)

other_changing : (opcode next old new : ℕ) (x tail : List ℕ) → next ≢ opcode → Other opcode tail → Other opcode (changing old new (next ∷ x) ++ tail)
other_changing opcode next old new x tail apart other =
    elim (eqb new old) as (λ b. Other opcode (cond b [] (next ∷ x) ++ tail)) [ true ↦ other | false ↦ apart ]

changed : (old new : ℕ) (x : List ℕ) → eqb new old ≡ false → changing old new x ≡ x
changed old new x apart = ap (λ b. cond b [] x) apart

stays : (spell : ℕ → List ℕ) (Fits : ℕ → Type 0) (opcode old : ℕ) (bytes : List ℕ) (new : ℕ) (rest : List ℕ) → Fits old → number old bytes ≡ number new rest
    → (bytes ≡ changing old new (opcode ∷ spell new) ++ rest) × Fits new
stays spell Fits opcode old bytes new rest fits e =
    subst (λ (p : ℕ × List ℕ). (bytes ≡ changing old p.0 (opcode ∷ spell p.0) ++ p.1) × Fits p.0) (ok_is (old, bytes) (new, rest) e)
    (sym (ap (λ x. x ++ bytes) (unchanged old (opcode ∷ spell old))), fits)

sets : (spell : ℕ → List ℕ) (Fits : ℕ → Type 0) (opcode old b : ℕ) (bytes : List ℕ) (left : ℕ) (m : ℕ) (after : List ℕ) (new : ℕ) (rest : List ℕ)
    → eqb b opcode ≡ true
    → (bytes ≡ spell m ++ after) × Fits m → cond (eqb m old) (wrong left) (number m after) ≡ number new rest
    → (b ∷ bytes ≡ changing old new (opcode ∷ spell new) ++ rest) × Fits new
sets spell Fits opcode old b bytes left m after new rest is read e =
    elim (chosen (eqb m old) (wrong left) (number m after) (number new rest) e) [
      | inl same ↦ absurd (not_ok left (new, rest) same.1)
      | inr apart ↦
          subst (λ (p : ℕ × List ℕ). (b ∷ bytes ≡ changing old p.0 (opcode ∷ spell p.0) ++ p.1) × Fits p.0) (ok_is (m, after) (new, rest) apart.1) (
            let head : b ≡ opcode = eqb-true b opcode is in
                ap (λ k. k ∷ bytes) head ∙ ap (λ x. opcode ∷ x) read.0 ∙ sym (ap (λ x. x ++ after) (changed old m (opcode ∷ spell m) apart.0)),
            read.1,
          )
    ]

pub register_takes : (opcode : ℕ) (read : List ℕ → Result (ℕ × List ℕ) ℕ) (spell : ℕ → List ℕ) (Fits : ℕ → Type 0) (old : ℕ) (bytes : List ℕ)
    (new : ℕ) (rest : List ℕ)
    → IsOperand read spell Fits → Fits old → register_at opcode read old bytes ≡ Ok (new, rest)
    → (bytes ≡ changing old new (opcode ∷ spell new) ++ rest) × Fits new
unfolding register_at
register_takes opcode read spell Fits old [] new rest is fits e = stays spell Fits opcode old [] new rest fits e
register_takes opcode read spell Fits old (b ∷ bytes) new rest is fits e =
    elim (chosen (eqb b opcode) (read bytes >>= (λ (x : ℕ × List ℕ). cond (eqb x.0 old) (wrong (length bytes)) (done x))) (number old (b ∷ bytes))
    (number new rest) e) [
      | inl stands ↦
          (let operand = bind_ok (read bytes) (λ (x : ℕ × List ℕ). cond (eqb x.0 old) (wrong (length bytes)) (done x)) (new, rest) stands.1 in
          sets spell Fits opcode old b bytes (length bytes) operand.0.0 operand.0.1 new rest stands.0
          (is.takes bytes operand.0.0 operand.0.1 operand.1) operand.2)
      | inr other ↦ stays spell Fits opcode old (b ∷ bytes) new rest fits other.1
    ]

-- no opcode stands where the bytes begin with another
register_other : (opcode : ℕ) (read : List ℕ → Result (ℕ × List ℕ) ℕ) (old : ℕ) (bytes : List ℕ) → Other opcode bytes
    → register_at opcode read old bytes ≡ Ok (old, bytes)
unfolding register_at
register_other opcode read old [] other = refl
register_other opcode read old (b ∷ bytes) other = rw (ne_eqb b opcode other) refl

pub register_again : (opcode : ℕ) (read : List ℕ → Result (ℕ × List ℕ) ℕ) (spell : ℕ → List ℕ) (Fits : ℕ → Type 0) (old new : ℕ) (rest : List ℕ)
    → IsOperand read spell Fits → Fits new → Other opcode rest → register_at opcode read old (changing old new (opcode ∷ spell new) ++ rest) ≡ Ok (new, rest)
unfolding register_at
register_again opcode read spell Fits old new rest is fits other =
    elim (cases_Bool (eqb new old)) [
      | inl same ↦
          (let number : new ≡ old = eqb-true new old same in
          ap (λ b. register_at opcode read old (cond b [] (opcode ∷ spell new) ++ rest)) same ∙ register_other opcode read old rest other
          ∙ ap (λ n. Ok (n, rest)) (sym number))
      | inr apart ↦
          ap (λ b. register_at opcode read old (cond b [] (opcode ∷ spell new) ++ rest)) apart
          ∙ rw (eq-eqb opcode opcode refl, is.again new rest fits, apart) refl
    ]

-- ---- the address

-- what an advance is spelled as, where it stands
abbrev advance : ℕ → Advance → List ℕ
advance from a = elim a.operand as (λ _. List ℕ) [ None ↦ [] | Some k ↦ advance_pc from a.address ]

pub record IsAdvance (first : Bool) (from : ℕ) (a : Advance) : Type 0 where
  pub above : from ≤ a.address
  pub fits : a.address < 2 ^ 64
  pub stays : a.operand ≡ None → a.address ≡ from
  pub begins : first ≡ true → a.operand ≡ None

abbrev advanced : Advance → List ℕ → Result (Advance × List ℕ) ℕ
advanced a rest = Ok (a, rest)

stays_at : (first : Bool) (from : ℕ) (bytes : List ℕ) (a : Advance) (rest : List ℕ) → from < 2 ^ 64
    → advanced (record { address = from; operand = None }) bytes ≡ advanced a rest
    → (bytes ≡ advance from a ++ rest) × IsAdvance first from a
stays_at first from bytes a rest fits e =
    subst (λ (p : Advance × List ℕ). (bytes ≡ advance from p.0 ++ p.1) × IsAdvance first from p.0)
    (ok_is (record { address = from; operand = None }, bytes) (a, rest) e)
    (refl, record { above = omega arith; fits = fits; stays = λ _. refl; begins = λ _. refl })

advances_to : (from b : ℕ) (bytes : List ℕ) (to : ℕ) (after : List ℕ) (a : Advance) (rest : List ℕ) → eqb b 2 ≡ true
    → (bytes ≡ uleb_of (to - from) ++ after) × (from ≤ to) × (to < 2 ^ 64)
    → advanced (record { address = to; operand = Some (length bytes) }) after ≡ advanced a rest
    → (b ∷ bytes ≡ advance from a ++ rest) × IsAdvance false from a
advances_to from b bytes to after a rest is read e =
    subst (λ (p : Advance × List ℕ). (b ∷ bytes ≡ advance from p.0 ++ p.1) × IsAdvance false from p.0)
    (ok_is (record { address = to; operand = Some (length bytes) }, after) (a, rest) e) (
      let head : b ≡ 2 = eqb-true b 2 is in
          ap (λ k. k ∷ bytes) head ∙ ap (λ x. 2 ∷ x) read.0,
      record { above = read.1; fits = read.2; stays = λ none. absurd cc; begins = λ begun. absurd cc },
    )

pub advance_takes : (first : Bool) (from : ℕ) (bytes : List ℕ) (a : Advance) (rest : List ℕ) → from < 2 ^ 64 → advance_at first from bytes ≡ Ok (a, rest)
    → (bytes ≡ advance from a ++ rest) × IsAdvance first from a
unfolding advance_at
advance_takes true from bytes a rest fits e = stays_at true from bytes a rest fits e
advance_takes false from [] a rest fits e = stays_at false from [] a rest fits e
advance_takes false from (b ∷ bytes) a rest fits e =
    elim (chosen (eqb b 2) (advanced_at from bytes >>= (λ (to : ℕ × List ℕ). advanced (record { address = to.0; operand = Some (length bytes) }) to.1))
    (advanced (record { address = from; operand = None }) (b ∷ bytes)) (advanced a rest) e) [
      | inl stands ↦
          (let operand = bind_ok (advanced_at from bytes) (λ (to : ℕ × List ℕ). advanced
          (record { address = to.0; operand = Some (length bytes) }) to.1) (a, rest) stands.1 in
          advances_to from b bytes operand.0.0 operand.0.1 a rest stands.0 (advanced_takes from bytes operand.0.0 operand.0.1 operand.1) operand.2)
      | inr other ↦ stays_at false from (b ∷ bytes) a rest fits other.1
    ]

-- where an address changes, or stays with no opcode, what is read tells it, and whether an operand stood
pub record Advances (first : Bool) (from to : ℕ) (bytes rest : List ℕ) : Type 0 where
  pub operand : Option ℕ
  pub read : advance_at first from bytes ≡ Ok (record { address = to; operand = operand }, rest)
  pub moves : (k : ℕ) → operand ≡ Some k → to ≢ from

advance_other : (first : Bool) (from : ℕ) (bytes : List ℕ) → Other 2 bytes → advance_at first from bytes ≡ Ok (record { address = from; operand = None }, bytes)
unfolding advance_at
advance_other true from bytes other = refl
advance_other false from [] other = refl
advance_other false from (b ∷ bytes) other = rw (ne_eqb b 2 other) refl

pub advance_stands : (from to : ℕ) (rest : List ℕ) → from ≤ to → to < 2 ^ 64
    → advance_at false from (advance_pc from to ++ rest) ≡ Ok (record { address = to; operand = Some (length (uleb_of (to - from) ++ rest)) }, rest)
unfolding advance_at
advance_stands from to rest above fits = rw (advanced_again from to rest above fits) refl

pub advance_again : (first : Bool) (from to : ℕ) (rest : List ℕ) → from ≤ to → to < 2 ^ 64 → (first ≡ true → to ≡ from) → Other 2 rest
    → Advances first from to (changing from to (advance_pc from to) ++ rest) rest
advance_again first from to rest above fits begins other =
    elim (cases_Bool (eqb to from)) [
      | inl same ↦
          (let number : to ≡ from = eqb-true to from same in
          record {
            operand = None;
            read = ap (λ b. advance_at first from (cond b [] (advance_pc from to) ++ rest)) same ∙ advance_other first from rest other
                ∙ ap (λ n. advanced (record { address = n; operand = None }) rest) (sym number);
            moves = λ k e. absurd cc;
          })
      | inr apart ↦ not_first first (λ is. eqb-false to from apart (begins is)) apart
    ]
  where
    not_first : (first : Bool) → (first ≡ true → ⊥) → eqb to from ≡ false → Advances first from to (changing from to (advance_pc from to) ++ rest) rest
    not_first true never apart = absurd (never refl)
    not_first false never apart = record {
      operand = Some (length (uleb_of (to - from) ++ rest));
      read = ap (λ b. advance_at false from (cond b [] (advance_pc from to) ++ rest)) apart ∙ advance_stands from to rest above fits;
      moves = λ k e. eqb-false to from apart;
    }

-- ---- the opcode that closes

pub constants_take : (fields bytes rest : List ℕ) → constants_at fields bytes ≡ Ok rest → bytes ≡ fields ++ rest
constants_take [] bytes rest e = ok_is bytes rest e
constants_take (n ∷ fields) [] rest e = absurd (not_ok 0 rest e)
constants_take (n ∷ fields) (b ∷ bytes) rest e =
    elim (chosen (eqb b n) (constants_at fields bytes) (failed (length (b ∷ bytes))) (done rest) e) [
      | inl is ↦ (let head : b ≡ n = eqb-true b n is.0 in ap (λ k. k ∷ bytes) head ∙ ap (λ x. n ∷ x) (constants_take fields bytes rest is.1))
      | inr other ↦ absurd (not_ok (length (b ∷ bytes)) rest other.1)
    ]

pub constants_again : (fields rest : List ℕ) → constants_at fields (fields ++ rest) ≡ Ok rest
constants_again [] rest = refl
constants_again (n ∷ fields) rest = rw (eq-eqb n n refl) (constants_again fields rest)

abbrev given : Group → List ℕ → Result (Group × List ℕ) ℕ
given g rest = Ok (g, rest)

abbrev refused : ℕ → Result (Group × List ℕ) ℕ
refused left = Err left

-- what the closing opcode says, where the registers would be r
pub data Closes (before r : Row) (operand : Option ℕ) (bytes rest : List ℕ) (g : Group) : Type 0 where
  copies : g ≡ Copied r → bytes ≡ 1 ∷ rest → (operand ≢ None → r.address ≢ before.address) → Closes before r operand bytes rest g
  ends : g ≡ Ended r.address → bytes ≡ end_sequence ++ rest → operand ≢ None → r.file ≡ before.file → r.column ≡ before.column → r.line ≡ before.line
      → Closes before r operand bytes rest g

group_is : (g h : Group) (x y : List ℕ) → given g x ≡ given h y → g ≡ h
group_is g h x y e = ap (λ (p : Group × List ℕ). p.0) (ok_is (g, x) (h, y) e)

rest_is : (g h : Group) (x y : List ℕ) → given g x ≡ given h y → x ≡ y
rest_is g h x y e = ap (λ (p : Group × List ℕ). p.1) (ok_is (g, x) (h, y) e)

copied_takes : (before r : Row) (operand : Option ℕ) (b : ℕ) (after rest : List ℕ) (g : Group) → b ≡ 1 → copied_at before r operand after ≡ Ok (g, rest)
    → Closes before r operand (b ∷ after) rest g
unfolding copied_at
copied_takes before r None b after rest g is e =
    copies (sym (group_is (Copied r) g after rest e)) (ap (λ k. k ∷ after) is ∙ ap (λ x. 1 ∷ x) (rest_is (Copied r) g after rest e))
    (λ some. absurd (some refl))
copied_takes before r (Some left) b after rest g is e =
    elim (chosen (eqb r.address before.address) (refused left) (given (Copied r) after) (given g rest) e) [
      | inl same ↦ absurd (not_ok left (g, rest) same.1)
      | inr apart ↦
          copies (sym (group_is (Copied r) g after rest apart.1)) (ap (λ k. k ∷ after) is ∙ ap (λ x. 1 ∷ x) (rest_is (Copied r) g after rest apart.1))
          (λ some. eqb-false r.address before.address apart.0)
    ]

ended_takes : (before r : Row) (operand : Option ℕ) (b : ℕ) (after rest : List ℕ) (g : Group) → b ≡ 0 → ended_at before r operand after ≡ Ok (g, rest)
    → Closes before r operand (b ∷ after) rest g
unfolding ended_at
ended_takes before r None b after rest g is e = absurd (not_ok (suc (length after)) (g, rest) e)
ended_takes before r (Some left) b after rest g is e =
    elim (chosen (eqb r.file before.file && (eqb r.column before.column && eqb r.line before.line))
    (constants_at (1 ∷ 1 ∷ []) after >>= (λ x. given (Ended r.address) x)) (refused (suc (length after))) (given g rest) e) [
      | inl alone ↦
          (let end = bind_ok (constants_at (1 ∷ 1 ∷ []) after) (λ x. given (Ended r.address) x) (g, rest) alone.1 in
          let files = and_true _ _ alone.0 in
          let others = and_true _ _ files.1 in
          let stands : after ≡ 1 ∷ 1 ∷ rest = constants_take (1 ∷ 1 ∷ []) after end.0 end.1
          ∙ ap (λ x. 1 ∷ 1 ∷ x) (rest_is (Ended r.address) g end.0 rest end.2) in
          ends (sym (group_is (Ended r.address) g end.0 rest end.2)) (ap (λ k. k ∷ after) is ∙ ap (λ x. 0 ∷ x) stands) (λ none. absurd cc)
          (eqb-true _ _ files.0) (eqb-true _ _ others.0) (eqb-true _ _ others.1))
      | inr other ↦ absurd (not_ok (suc (length after)) (g, rest) other.1)
    ]
  where
    and_true : (a b : Bool) → (a && b) ≡ true → (a ≡ true) × (b ≡ true)
    and_true true b e = (refl, e)
    and_true false b e = absurd cc

pub closed_takes : (before r : Row) (operand : Option ℕ) (bytes rest : List ℕ) (g : Group) → closed_at before r operand bytes ≡ Ok (g, rest)
    → Closes before r operand bytes rest g
unfolding closed_at
closed_takes before r operand [] rest g e = absurd (not_ok 0 (g, rest) e)
closed_takes before r operand (b ∷ after) rest g e =
    elim (chosen (eqb b 1) (copied_at before r operand after) (cond (eqb b 0) (ended_at before r operand after) (refused (suc (length after))))
    (given g rest) e) [
      | inl copy ↦ copied_takes before r operand b after rest g (eqb-true b 1 copy.0) copy.1
      | inr other ↦
          elim (chosen (eqb b 0) (ended_at before r operand after) (refused (suc (length after))) (given g rest) other.1) [
            | inl end ↦ ended_takes before r operand b after rest g (eqb-true b 0 end.0) end.1
            | inr none ↦ absurd (not_ok (suc (length after)) (g, rest) none.1)
          ]
    ]

-- ---- a row, or an end

pub record IsCopied (first : Bool) (before : Row) (bytes rest : List ℕ) (r : Row) : Type 0 where
  pub spelled : bytes ≡ row before r ++ rest
  pub above : before.address ≤ r.address
  pub begins : first ≡ true → r.address ≡ before.address
  pub fits : IsRow r

pub record IsEnded (first : Bool) (before : Row) (bytes rest : List ℕ) (end : ℕ) : Type 0 where
  pub spelled : bytes ≡ (advance_pc before.address end ++ end_sequence) ++ rest
  pub above : before.address ≤ end
  pub fits : end < 2 ^ 64
  pub later : first ≡ false

abbrev pub IsGroup : Bool → Row → List ℕ → List ℕ → Group → Type 0
IsGroup first before bytes rest (Copied r) = IsCopied first before bytes rest r
IsGroup first before bytes rest (Ended end) = IsEnded first before bytes rest end

advance_changes : (from to : ℕ) (o : Option ℕ) → (o ≡ None → to ≡ from) → (o ≢ None → to ≢ from)
    → advance from (record { address = to; operand = o }) ≡ changing from to (advance_pc from to)
advance_changes from to None stays moves = sym (ap (λ b. cond b [] (advance_pc from to)) (eq-eqb to from (stays refl)))
advance_changes from to (Some k) stays moves = sym (changed from to (advance_pc from to) (ne_eqb to from (moves (λ none. absurd cc))))

advance_is : (from to : ℕ) (o : Option ℕ) → o ≢ None → advance from (record { address = to; operand = o }) ≡ advance_pc from to
advance_is from to None some = absurd (some refl)
advance_is from to (Some k) some = refl

row_append : (before r : Row) (rest : List ℕ) → row before r ++ rest
    ≡ changing before.file r.file (set_file r.file) ++ (changing before.column r.column (set_column r.column)
    ++ (changing before.address r.address (advance_pc before.address r.address) ++ (changing before.line r.line (advance_line before.line r.line) ++ 1 ∷ rest)))
unfolding row
row_append before r rest = simp append_assoc

-- the parts that were read one after the other
record Parts (first : Bool) (before : Row) (bytes rest : List ℕ) (g : Group) : Type 0 where
  r : Row
  operand : Option ℕ
  b1 : List ℕ
  b2 : List ℕ
  b3 : List ℕ
  b4 : List ℕ
  file : bytes ≡ changing before.file r.file (set_file r.file) ++ b1
  column : b1 ≡ changing before.column r.column (set_column r.column) ++ b2
  address : b2 ≡ advance before.address (record { address = r.address; operand = operand }) ++ b3
  line : b3 ≡ changing before.line r.line (advance_line before.line r.line) ++ b4
  fits : IsRow r
  moves : IsAdvance first before.address (record { address = r.address; operand = operand })
  closes : Closes before r operand b4 rest g

group_parts : (first : Bool) (before : Row) (bytes : List ℕ) (g : Group) (rest : List ℕ) → IsRow before → group_at first before bytes ≡ Ok (g, rest)
    → Parts first before bytes rest g
unfolding group_at
group_parts first before bytes g rest fits e =
    let close = λ (file column : ℕ) (a : Advance) (line : ℕ × List ℕ).
    closed_at before (record { address = a.address; file = file; line = line.0; column = column }) a.operand line.1 in
    let lines = λ (file column : ℕ) (a : Advance × List ℕ). register_at 3 (line_at before.line) before.line a.1 >>= close file column a.0 in
    let addresses = λ (file : ℕ) (column : ℕ × List ℕ). advance_at first before.address column.1 >>= lines file column.0 in
    let columns = λ (file : ℕ × List ℕ). register_at 5 (uleb_at (2 ^ 32)) before.column file.1 >>= addresses file.0 in
    let f = bind_ok (register_at 4 (uleb_at (2 ^ 32)) before.file bytes) columns (g, rest) e in
    let c = bind_ok (register_at 5 (uleb_at (2 ^ 32)) before.column f.0.1) (addresses f.0.0) (g, rest) f.2 in
    let a = bind_ok (advance_at first before.address c.0.1) (lines f.0.0 c.0.0) (g, rest) c.2 in
    let l = bind_ok (register_at 3 (line_at before.line) before.line a.0.1) (close f.0.0 c.0.0 a.0.0) (g, rest) a.2 in
    let file = register_takes 4 (uleb_at (2 ^ 32)) uleb_of (λ n. n < 2 ^ 32) before.file bytes f.0.0 f.0.1 small fits.file f.1 in
    let column = register_takes 5 (uleb_at (2 ^ 32)) uleb_of (λ n. n < 2 ^ 32) before.column f.0.1 c.0.0 c.0.1 small fits.column c.1 in
    let address = advance_takes first before.address c.0.1 a.0.0 a.0.1 fits.address a.1 in
    let line = register_takes 3 (line_at before.line) (λ to. sleb_of (pos to -ℤ pos before.line)) (λ n. n < 2 ^ 32) before.line a.0.1 l.0.0 l.0.1
    (to_line before.line) fits.line l.1 in
    record {
      r = record { address = a.0.0.address; file = f.0.0; line = l.0.0; column = c.0.0 };
      operand = a.0.0.operand;
      b1 = f.0.1;
      b2 = c.0.1;
      b3 = a.0.1;
      b4 = l.0.1;
      file = file.0;
      column = column.0;
      address = address.0;
      line = line.0;
      fits = record { address = address.1.fits; file = file.1; line = line.1; column = column.1 };
      moves = address.1;
      closes = closed_takes before _ a.0.0.operand l.0.1 rest g l.2;
    }

parts_group : (first : Bool) (before : Row) (bytes rest : List ℕ) (g : Group) (p : Parts first before bytes rest g)
    → Closes before p.r p.operand p.b4 rest g → IsGroup first before bytes rest g
parts_group first before bytes rest g p (copies is stands moved) =
    subst (IsGroup first before bytes rest) (sym is) (record {
      spelled =
          p.file ∙ ap (λ x. changing before.file p.r.file (set_file p.r.file) ++ x)
          (p.column ∙ ap (λ x. changing before.column p.r.column (set_column p.r.column) ++ x)
          (p.address ∙ ap (λ x. x ++ p.b3) (advance_changes before.address p.r.address p.operand p.moves.stays moved)
          ∙ ap (λ x. changing before.address p.r.address (advance_pc before.address p.r.address) ++ x)
          (p.line ∙ ap (λ x. changing before.line p.r.line (advance_line before.line p.r.line) ++ x) stands)))
          ∙ sym (row_append before p.r rest);
      above = p.moves.above;
      begins = λ begun. p.moves.stays (p.moves.begins begun);
      fits = p.fits;
    })
parts_group first before bytes rest g p (ends is stands some same_file same_column same_line) =
    let empty_file = nothing before.file p.r.file (set_file p.r.file) p.b1 same_file in
    let empty_column = nothing before.column p.r.column (set_column p.r.column) p.b2 same_column in
    let empty_line = nothing before.line p.r.line (advance_line before.line p.r.line) p.b4 same_line in
    subst (IsGroup first before bytes rest) (sym is) (record {
      spelled =
          p.file ∙ empty_file ∙ p.column ∙ empty_column ∙ p.address ∙ ap (λ x. x ++ p.b3) (advance_is before.address p.r.address p.operand some)
          ∙ ap (λ x. advance_pc before.address p.r.address ++ x) (p.line ∙ empty_line ∙ stands)
          ∙ sym (append_assoc (advance_pc before.address p.r.address) end_sequence rest);
      above = p.moves.above;
      fits = p.fits.address;
      later = later first (λ begun. some (p.moves.begins begun));
    })
  where
    nothing : (old new : ℕ) (x rest : List ℕ) → new ≡ old → changing old new x ++ rest ≡ rest
    nothing old new x rest same = ap (λ b. cond b [] x ++ rest) (eq-eqb new old same)

    later : (b : Bool) → (b ≡ true → ⊥) → b ≡ false
    later true never = absurd (never refl)
    later false never = refl

pub group_takes : (first : Bool) (before : Row) (bytes : List ℕ) (g : Group) (rest : List ℕ) → IsRow before
    → group_at first before bytes ≡ Ok (g, rest) → IsGroup first before bytes rest g
group_takes first before bytes g rest fits e = let p = group_parts first before bytes g rest fits e in parts_group first before bytes rest g p p.closes

-- ---- and back

pub step : {A B : Type 0} (r : Result A ℕ) (f : A → Result B ℕ) (x : A) → r ≡ Ok x → (r >>= f) ≡ f x
step r f x e = ap (λ z. z >>= f) e

copied_again : (before r : Row) (operand : Option ℕ) (rest : List ℕ) → ((k : ℕ) → operand ≡ Some k → r.address ≢ before.address)
    → copied_at before r operand rest ≡ Ok (Copied r, rest)
unfolding copied_at
copied_again before r None rest moves = refl
copied_again before r (Some k) rest moves = ap (λ b. cond b (refused k) (given (Copied r) rest)) (ne_eqb r.address before.address (moves k refl))

closed_copy : (before r : Row) (operand : Option ℕ) (rest : List ℕ) → ((k : ℕ) → operand ≡ Some k → r.address ≢ before.address)
    → closed_at before r operand (1 ∷ rest) ≡ Ok (Copied r, rest)
unfolding closed_at
closed_copy before r operand rest moves = copied_again before r operand rest moves

closed_end : (before r : Row) (k : ℕ) (rest : List ℕ) → r.file ≡ before.file → r.column ≡ before.column → r.line ≡ before.line
    → closed_at before r (Some k) (end_sequence ++ rest) ≡ Ok (Ended r.address, rest)
unfolding closed_at ended_at
closed_end before r k rest file column line =
    rw (eq-eqb r.file before.file file, eq-eqb r.column before.column column, eq-eqb r.line before.line line) refl

-- two numerals differ
numbers_differ : (a b : ℕ) → IsTrue (not (eqb a b)) → a ≢ b
numbers_differ a b apart same = false_true (eqb a b) apart (eq-eqb a b same)
  where
    false_true : (c : Bool) → IsTrue (not c) → c ≡ true → ⊥
    false_true true apart e = absurd cc
    false_true false apart e = absurd cc

four_apart : (before r : Row) (rest : List ℕ) → Other 4 (changing before.column r.column (set_column r.column)
    ++ (changing before.address r.address (advance_pc before.address r.address) ++ (changing before.line r.line (advance_line before.line r.line) ++ 1 ∷ rest)))
four_apart before r rest =
    other_changing 4 5 before.column r.column _ _ (numbers_differ 5 4 refl) (other_changing 4 2 before.address r.address _ _ (numbers_differ 2 4 refl)
    (other_changing 4 3 before.line r.line _ _ (numbers_differ 3 4 refl) (numbers_differ 1 4 refl)))

five_apart : (before r : Row) (rest : List ℕ) → Other 5 (changing before.address r.address (advance_pc before.address r.address)
    ++ (changing before.line r.line (advance_line before.line r.line) ++ 1 ∷ rest))
five_apart before r rest = other_changing 5 2 before.address r.address _ _ (numbers_differ 2 5 refl)
    (other_changing 5 3 before.line r.line _ _ (numbers_differ 3 5 refl) (numbers_differ 1 5 refl))

two_apart : (before r : Row) (rest : List ℕ) → Other 2 (changing before.line r.line (advance_line before.line r.line) ++ 1 ∷ rest)
two_apart before r rest = other_changing 2 3 before.line r.line _ _ (numbers_differ 3 2 refl) (numbers_differ 1 2 refl)

pub row_again : (first : Bool) (before r : Row) (rest : List ℕ) → IsRow r → before.address ≤ r.address → (first ≡ true → r.address ≡ before.address)
    → group_at first before (row before r ++ rest) ≡ Ok (Copied r, rest)
unfolding group_at
row_again first before r rest fits above begins =
    let close = λ (file column : ℕ) (a : Advance) (line : ℕ × List ℕ).
    closed_at before (record { address = a.address; file = file; line = line.0; column = column }) a.operand line.1 in
    let lines = λ (file column : ℕ) (a : Advance × List ℕ). register_at 3 (line_at before.line) before.line a.1 >>= close file column a.0 in
    let addresses = λ (file : ℕ) (column : ℕ × List ℕ). advance_at first before.address column.1 >>= lines file column.0 in
    let columns = λ (file : ℕ × List ℕ). register_at 5 (uleb_at (2 ^ 32)) before.column file.1 >>= addresses file.0 in
    let b4 : List ℕ = 1 ∷ rest in
    let b3 : List ℕ = changing before.line r.line (advance_line before.line r.line) ++ b4 in
    let b2 : List ℕ = changing before.address r.address (advance_pc before.address r.address) ++ b3 in
    let b1 : List ℕ = changing before.column r.column (set_column r.column) ++ b2 in
    let a = advance_again first before.address r.address b3 above fits.address begins (two_apart before r rest) in
    ap (group_at first before) (row_append before r rest)
    ∙ step (register_at 4 (uleb_at (2 ^ 32)) before.file (changing before.file r.file (set_file r.file) ++ b1)) columns (r.file, b1)
    (register_again 4 (uleb_at (2 ^ 32)) uleb_of (λ n. n < 2 ^ 32) before.file r.file b1 small fits.file (four_apart before r rest))
    ∙ step (register_at 5 (uleb_at (2 ^ 32)) before.column b1) (addresses r.file) (r.column, b2)
    (register_again 5 (uleb_at (2 ^ 32)) uleb_of (λ n. n < 2 ^ 32) before.column r.column b2 small fits.column (five_apart before r rest))
    ∙ step (advance_at first before.address b2) (lines r.file r.column) (record { address = r.address; operand = a.operand }, b3) a.read
    ∙ step (register_at 3 (line_at before.line) before.line b3) (close r.file r.column (record { address = r.address; operand = a.operand })) (r.line, b4)
    (register_again 3 (line_at before.line) (λ to. sleb_of (pos to -ℤ pos before.line)) (λ n. n < 2 ^ 32) before.line r.line b4
    (to_line before.line) fits.line (numbers_differ 1 3 refl))
    ∙ closed_copy before r a.operand rest a.moves

pub end_again : (before : Row) (end : ℕ) (rest : List ℕ) → before.address ≤ end → end < 2 ^ 64
    → group_at false before ((advance_pc before.address end ++ end_sequence) ++ rest) ≡ Ok (Ended end, rest)
unfolding group_at
end_again before end rest above fits =
    let close = λ (file column : ℕ) (a : Advance) (line : ℕ × List ℕ).
    closed_at before (record { address = a.address; file = file; line = line.0; column = column }) a.operand line.1 in
    let lines = λ (file column : ℕ) (a : Advance × List ℕ). register_at 3 (line_at before.line) before.line a.1 >>= close file column a.0 in
    let addresses = λ (file : ℕ) (column : ℕ × List ℕ). advance_at false before.address column.1 >>= lines file column.0 in
    let columns = λ (file : ℕ × List ℕ). register_at 5 (uleb_at (2 ^ 32)) before.column file.1 >>= addresses file.0 in
    let tail : List ℕ = end_sequence ++ rest in
    let bytes : List ℕ = advance_pc before.address end ++ tail in
    let k : ℕ = length (uleb_of (end - before.address) ++ tail) in
    let r : Row = record { address = end; file = before.file; line = before.line; column = before.column } in
    ap (group_at false before) (append_assoc (advance_pc before.address end) end_sequence rest)
    ∙ step (register_at 4 (uleb_at (2 ^ 32)) before.file bytes) columns (before.file, bytes)
    (register_other 4 (uleb_at (2 ^ 32)) before.file bytes (numbers_differ 2 4 refl))
    ∙ step (register_at 5 (uleb_at (2 ^ 32)) before.column bytes) (addresses before.file) (before.column, bytes)
    (register_other 5 (uleb_at (2 ^ 32)) before.column bytes (numbers_differ 2 5 refl))
    ∙ step (advance_at false before.address bytes) (lines before.file before.column) (record { address = end; operand = Some k }, tail)
    (advance_stands before.address end tail above fits)
    ∙ step (register_at 3 (line_at before.line) before.line tail) (close before.file before.column (record { address = end; operand = Some k }))
    (before.line, tail)
    (register_other 3 (line_at before.line) before.line tail (numbers_differ 0 3 refl))
    ∙ closed_end before r k rest refl refl refl
