-- The inputs and the bases of rows, by what code sees of them.
use Rattle.std.proofs.Common.{◌≡◌, ℕ, Option, Some, None, refl, sym, ap, ◌∙◌, subst}
use Rattle.std.specs.Prelude.{slice_index_or}
use Rattle.rv64_instr.specs.Row.{Input, Content, Number, PartOf, Base, BesidePart}
use Rattle.rv64_instr.specs.declared.decoded.Input.TheVariants as decoded
use Rattle.rv64_instr.specs.declared.decoded.Base.TheVariants as base
use Rattle.rv64_instr.specs.declared.symbol.LinkedAddress.{LinkedAddress}
use Rattle.rv64_instr.specs.declared.symbol.Half.{Half}
use Rattle.rv64_instr.specs.Decoded.{ShowsInput, ShowsBase}
use Rattle.rv64_instr.specs.Linked.{addresses_in, linked_value}
use Rattle.rv64_instr.specs.LocationEffects.{part_address, input_part, base_part}
use Rattle.sem_mir.specs.State.{Core}
use Rattle.sem_interpreter.specs.declared.machine.InterpreterState.{InterpreterState}
use Rattle.sem_interpreter.specs.Acts.{MachineHolds, InputHolds, AddressHolds}
use Rattle.sem_interpreter.proofs.Rows.{input_content, input_part_of}

pub one_address : (y z : LinkedAddress) → Some y ≡ Some z → y ≡ z
one_address y z e = cc

pub no_address : (y : LinkedAddress) → Some y ≡ None → ⊥
no_address y e = let f : ⊥ = cc in f

pub one_number : (m n : ℕ) → Some m ≡ Some n → m ≡ n
one_number m n e = cc

pub no_number : (n : ℕ) → Some n ≡ None → ⊥
no_number n e = let f : ⊥ = cc in f

pub at_content : (m : InterpreterState) (r : ℕ) (o : Option ℕ) (x : Input) → x ≡ Content r → o ≡ slice_index_or m.registers r None → (s : Core) →
    MachineHolds m s → InputHolds s x o
at_content m r o x e read s holds = subst (λ (b : Input). InputHolds s b o) (sym e) (input_content m r o read s holds)

pub at_number : (n : ℕ) (x : Input) → x ≡ Number n → (s : Core) → InputHolds s x (Some n)
at_number n x e s = subst (λ (b : Input). InputHolds s b (Some n)) (sym e) (refl, refl)

pub at_part : (m : InterpreterState) (half : Half) (linked : Option LinkedAddress) (o : Option ℕ) (x : Input) → ShowsInput (decoded.PartOf half) x →
    part_address (input_part x) ≡ linked → ((y : LinkedAddress) → Some y ≡ linked → o ≡ Some (linked_value (addresses_in m.symbols) half y)) →
    (s : Core) → MachineHolds m s → InputHolds s x o
at_part m half linked o x (y, e) same given s holds =
    let is : Some y ≡ linked = ap (λ (b : Input). part_address (input_part b)) (sym e) ∙ same in
    subst (λ (b : Input). InputHolds s b o) (sym e)
    (subst (λ (z : Option ℕ). InputHolds s (PartOf half y) z) (sym (given y is)) (input_part_of m half y s holds))

pub at_base : (s : Core) (offset : ℕ) (o : Option ℕ) (x b : Base) → x ≡ b → AddressHolds s b offset o → AddressHolds s x offset o
at_base s offset o x b e h = subst (λ (z : Base). AddressHolds s z offset o) (sym e) h

pub at_beside : (s : Core) (r offset : ℕ) (linked : Option LinkedAddress) (o : Option ℕ) (x : Base) → ShowsBase (base.BesidePart r) x →
    part_address (base_part x) ≡ linked → ((y : LinkedAddress) → Some y ≡ linked → AddressHolds s (BesidePart r y) offset o) → AddressHolds s x offset o
at_beside s r offset linked o x (y, e) same given =
    at_base s offset o x (BesidePart r y) e (given y (ap (λ (b : Base). part_address (base_part b)) (sym e) ∙ same))
