-- A row is read where it is spelled, in both directions.
use Rattle.std.proofs.Common.{◌≡◌, ◌≢◌, ℕ, suc, ◌+◌, ◌-◌, ◌*◌, ◌/◌, ◌^◌, ◌<◌, true, false, cond, eqb, List, [], ◌∷◌, ◌++◌}
use Rattle.std.proofs.Common.{length, Option, Some, None, Result, Ok, Err, arith, ap, subst, sym, ◌∙◌, refl, inl, inr, append_assoc, length-append}
use Rattle.std.proofs.Common.{eq-eqb, eqb-true}
use Rattle.std.proofs.lemmas.Bool.{eqb-false, ne_eqb, cases_Bool}
use Rattle.std.proofs.lemmas.List.{nil_from_length}
use Rattle.std.proofs.lemmas.List.Elements.{recursion_from_All, All-from_recursion}
use Rattle.dwarf_base.specs.Leb.{uleb_of}
use Rattle.dwarf_line.specs.Spelling.{changing}
use Rattle.dwarf_line.specs.Fields.{◌>>=◌, uleb_at}
use Rattle.dwarf_line.specs.FirstFault.{register_at}
use Rattle.dwarf_line.proofs.Groups.{bind_ok, chosen, ok_is, not_ok, Other, register_takes, register_again, step, small}
use Rattle.dwarf_line.proofs.Fixed.{IsBytes}
use Rattle.dwarf_frame.specs.declared.table.FrameRow.{FrameRow}
use Rattle.dwarf_frame.specs.declared.table.Row.{Row}
use Rattle.dwarf_frame.specs.Table.{is_saved, IsDistance, AreRules, IsNext}
use Rattle.dwarf_frame.specs.Spelling.{advance, def_cfa_offset, saves, restores, registers, row}
use Rattle.dwarf_frame.specs.FirstFault.{address_at, registers_at, next_row_at}
use Rattle.dwarf_frame.proofs.Opcodes.{number, address_takes, address_again, Below, may_at, may_be, registers_take, registers_again}
use Rattle.dwarf_frame.proofs.Opcodes.{unchanged, nothing_changes}

abbrev pub change : (old new : ℕ) → List ℕ
change old new = changing old new (def_cfa_offset new)

no_change : (old new : ℕ) → new ≡ old → change old new ≡ []
no_change old new same = ap (λ b. cond b [] (def_cfa_offset new)) (eq-eqb new old same)

empty_change : (old new : ℕ) → change old new ≡ [] → new ≡ old
empty_change old new e =
    elim (cases_Bool (eqb new old)) [
      | inl same ↦ eqb-true new old same
      | inr apart ↦
          (let bytes : def_cfa_offset new ≡ [] = sym (ap (λ b. cond b [] (def_cfa_offset new)) apart) ∙ e in
          absurd (omega (arith, ap length bytes)))
    ]

pub row_append : (before r : Row) (rest : List ℕ) → row before r ++ rest
    ≡ advance ((r.address - before.address) / 4)
    ++ (change before.rules.cfa_offset r.rules.cfa_offset ++ (registers before.rules.saved r.rules.saved ++ rest))
unfolding row
row_append before r rest = simp append_assoc

abbrev rules_of : ℕ → List (Option ℕ) → FrameRow
rules_of offset saved = record { cfa_offset = offset; saved = saved }

abbrev row_of : (address offset : ℕ) → List (Option ℕ) → Row
row_of address offset saved = record { address = address; rules = rules_of offset saved }

abbrev given : Row → List ℕ → Result (Row × List ℕ) ℕ
given r rest = Ok (r, rest)

abbrev refused : ℕ → Result (Row × List ℕ) ℕ
refused left = Err left

-- the steps of the reader after each opcode
abbrev closing : (address offset : ℕ) → List ℕ → List (Option ℕ) × List ℕ → Result (Row × List ℕ) ℕ
closing address offset changes saved =
    cond (eqb (length saved.1) (length changes)) (refused (length saved.1)) (given (row_of address offset saved.0) saved.1)

abbrev after_offset : Row → ℕ × List ℕ → ℕ × List ℕ → Result (Row × List ℕ) ℕ
after_offset before address offset = registers_at before.rules.saved offset.1 >>= closing address.0 offset.0 address.1

abbrev after_address : Row → ℕ × List ℕ → Result (Row × List ℕ) ℕ
after_address before address = register_at 14 (uleb_at (2 ^ 32)) before.rules.cfa_offset address.1 >>= after_offset before address

-- what a row is that is read
pub record IsRowAt (end : ℕ) (before : Row) (bytes : List ℕ) (r : Row) (rest : List ℕ) : Type 0 where
  pub spelled : bytes ≡ row before r ++ rest
  pub next : IsNext before r end
  pub rules : AreRules r.rules

pub row_takes : (end : ℕ) (before : Row) (bytes : List ℕ) (r : Row) (rest : List ℕ) → IsBytes bytes → AreRules before.rules
    → next_row_at end before bytes ≡ Ok (r, rest) → IsRowAt end before bytes r rest
unfolding next_row_at
row_takes end before bytes r rest are fits e =
    let a = bind_ok (address_at before.address end bytes) (after_address before) (r, rest) e in
    let o = bind_ok (register_at 14 (uleb_at (2 ^ 32)) before.rules.cfa_offset a.0.1) (after_offset before a.0) (r, rest) a.2 in
    let s = bind_ok (registers_at before.rules.saved o.0.1) (closing a.0.0 o.0.0 a.0.1) (r, rest) o.2 in
    let address = address_takes before.address end bytes a.0.0 a.0.1 are a.1 in
    let offset = register_takes 14 (uleb_at (2 ^ 32)) uleb_of (λ n. n < 2 ^ 32) before.rules.cfa_offset a.0.1 o.0.0 o.0.1 small fits.offset o.1 in
    let saved =
    registers_take before.rules.saved o.0.1 s.0.0 s.0.1 fits.registers (recursion_from_All IsDistance before.rules.saved fits.distances)
    (may_be before.rules.saved fits.zero fits.pointer) s.1 in
    let words : (a.0.0 - before.address) / 4 ≡ address.words = omega (arith, address.is) in
    elim (chosen (eqb (length s.0.1) (length a.0.1)) (refused (length s.0.1)) (given (row_of a.0.0 o.0.0 s.0.0) s.0.1) (given r rest) s.2) [
      | inl nothing ↦ absurd (not_ok (length s.0.1) (r, rest) nothing.1)
      | inr some ↦
          subst (λ (p : Row × List ℕ). IsRowAt end before bytes p.0 p.1) (ok_is (row_of a.0.0 o.0.0 s.0.0, s.0.1) (r, rest) some.1)
          (record {
            spelled =
                address.spelled
                ∙ ap (λ x. advance address.words ++ x) (offset.0 ∙ ap (λ x. change before.rules.cfa_offset o.0.0 ++ x) saved.spelled)
                ∙ ap (λ w. advance w ++ (change before.rules.cfa_offset o.0.0 ++ (registers before.rules.saved s.0.0 ++ s.0.1))) (sym words)
                ∙ sym (row_append before (row_of a.0.0 o.0.0 s.0.0) s.0.1);
            next = record {
              later = omega (arith, address.is, address.some);
              words = omega (arith, address.is);
              near = omega (arith, address.is, address.fits);
              inside = address.inside;
              others = λ same. eqb-false (length s.0.1) (length a.0.1) some.0
                  (ap length (sym (offset.0
                  ∙ ap (λ x. x ++ o.0.1) (no_change before.rules.cfa_offset o.0.0 (ap (λ (x : FrameRow). x.cfa_offset) same))
                  ∙ saved.spelled
                  ∙ ap (λ x. registers before.rules.saved x ++ s.0.1) (ap (λ (x : FrameRow). x.saved) same)
                  ∙ ap (λ x. x ++ s.0.1) (nothing_changes before.rules.saved))));
              keeps = saved.keeps;
            };
            rules = record {
              offset = offset.1;
              registers = saved.count;
              distances = All-from_recursion IsDistance s.0.0 saved.distances;
              zero = may_at s.0.0 0 0 saved.may refl;
              pointer = may_at s.0.0 0 2 saved.may refl;
            };
          })
    ]

-- ---- and back

-- what may follow a row: nothing, padding, or the next row's advance
abbrev pub Follows : List ℕ → Type 0
Follows [] = Unit {0}
Follows (b ∷ bytes) = (b < 128) × (b ≢ 14)

follows_below : (rest : List ℕ) → Follows rest → Below rest
follows_below [] follows = tt
follows_below (b ∷ rest) follows = follows.0

follows_other : (rest : List ℕ) → Follows rest → Other 14 rest
follows_other [] follows = tt
follows_other (b ∷ rest) follows = follows.1

saves_no_offset : (saved : List (Option ℕ)) (register : ℕ) (rest : List ℕ) → Follows rest → Other 14 (saves register saved ++ rest)
saves_no_offset [] register rest follows = follows_other rest follows
saves_no_offset (None ∷ saved) register rest follows = saves_no_offset saved (suc register) rest follows
saves_no_offset (Some distance ∷ saved) register rest follows = λ e. omega arith

restores_no_offset : (saved : List (Option ℕ)) (register : ℕ) (rest : List ℕ) → Follows rest → Other 14 (restores register saved ++ rest)
restores_no_offset [] register rest follows = follows_other rest follows
restores_no_offset (None ∷ saved) register rest follows = restores_no_offset saved (suc register) rest follows
restores_no_offset (Some distance ∷ saved) register rest follows = λ e. omega arith

no_offset : (saved new : List (Option ℕ)) (rest : List ℕ) → Follows rest → Other 14 (registers saved new ++ rest)
no_offset saved new rest follows =
    elim (is_saved saved) as (λ b. Other 14 (cond b (cond (is_saved new) [] (restores 0 saved)) (saves 0 new) ++ rest)) [
      | true ↦
          elim (is_saved new) as (λ b. Other 14 (cond b [] (restores 0 saved) ++ rest)) [
            | true ↦ follows_other rest follows
            | false ↦ restores_no_offset saved 0 rest follows
          ]
      | false ↦ saves_no_offset new 0 rest follows
    ]

-- where as many bytes are left as before the changes, there is none
same_rules : (before r : Row) (end : ℕ) (rest : List ℕ) → IsNext before r end → AreRules before.rules → AreRules r.rules
    → length rest ≡ length (change before.rules.cfa_offset r.rules.cfa_offset ++ (registers before.rules.saved r.rules.saved ++ rest))
    → r.rules ≡ before.rules
same_rules before r end rest next fits rules same =
    let offset : List ℕ = change before.rules.cfa_offset r.rules.cfa_offset in
    let saved : List ℕ = registers before.rules.saved r.rules.saved in
    let no_opcode : length (change before.rules.cfa_offset r.rules.cfa_offset) ≡ 0 =
    omega (arith, same, length-append offset (saved ++ rest), length-append saved rest) in
    let no_register : length (registers before.rules.saved r.rules.saved) ≡ 0 =
    omega (arith, same, length-append offset (saved ++ rest), length-append saved rest) in
    let offset_is : r.rules.cfa_offset ≡ before.rules.cfa_offset =
    empty_change before.rules.cfa_offset r.rules.cfa_offset (nil_from_length offset no_opcode) in
    let saved_is : r.rules.saved ≡ before.rules.saved =
    unchanged before.rules.saved r.rules.saved fits.registers rules.registers next.keeps (nil_from_length saved no_register) in
    ap (λ n. rules_of n r.rules.saved) offset_is ∙ ap (rules_of before.rules.cfa_offset) saved_is

pub row_again : (end : ℕ) (before r : Row) (rest : List ℕ) → IsNext before r end → AreRules before.rules → AreRules r.rules → Follows rest
    → next_row_at end before (row before r ++ rest) ≡ Ok (r, rest)
unfolding next_row_at
row_again end before r rest next fits rules follows =
    let words : ℕ = (r.address - before.address) / 4 in
    let b2 : List ℕ = registers before.rules.saved r.rules.saved ++ rest in
    let b1 : List ℕ = change before.rules.cfa_offset r.rules.cfa_offset ++ b2 in
    let to : before.address + 4 * ((r.address - before.address) / 4) ≡ r.address = omega (arith, next.words, next.later) in
    ap (next_row_at end before) (row_append before r rest)
    ∙ step (address_at before.address end (advance words ++ b1)) (after_address before) (r.address, b1)
    (address_again before.address end words b1 (omega (arith, next.words, next.later)) (omega (arith, next.near)) (omega (arith, to, next.inside))
    ∙ ap (λ n. number n b1) to)
    ∙ step (register_at 14 (uleb_at (2 ^ 32)) before.rules.cfa_offset b1) (after_offset before (r.address, b1)) (r.rules.cfa_offset, b2)
    (register_again 14 (uleb_at (2 ^ 32)) uleb_of (λ n. n < 2 ^ 32) before.rules.cfa_offset r.rules.cfa_offset b2 small rules.offset
    (no_offset before.rules.saved r.rules.saved rest follows))
    ∙ step (registers_at before.rules.saved b2) (closing r.address r.rules.cfa_offset b1) (r.rules.saved, rest)
    (registers_again before.rules.saved r.rules.saved rest rules.registers (recursion_from_All IsDistance r.rules.saved rules.distances)
    (may_be r.rules.saved rules.zero rules.pointer) next.keeps (follows_below rest follows))
    ∙ ap (λ b. cond b (refused (length rest)) (given r rest))
    (ne_eqb (length rest) (length b1) (λ same. next.others (same_rules before r end rest next fits rules same)))
