-- What has a token holds its value at the machine: a register by the machine's registers, which are the function's; a slot by memory at its
-- offset from x2, since where it has a token the frame is up; a number by itself.
use Rattle.std.proofs.Common.{◌≡◌, ℕ, ◌+◌, ◌-◌, ◌%◌, ◌^◌, ◌<◌, ◌≤◌, Option, Some, sym, ap, ◌∙◌, arith}
use Rattle.rv64_instr.specs.declared.place.Place.{Place}
use Rattle.rv64_instr.specs.declared.place.Place.TheVariants.{Register, Slot, Const}
use Rattle.rv64_instr.specs.Arithmetic.{word}
use Rattle.mir_func.specs.Limits.{MAX_FRAME, FRAME_ROOM}
use Rattle.mir_func.specs.Objects.{area_of}
use Rattle.sem_mir.specs.State.{content, spelled}
use Rattle.sem_mir.specs.Step.{or_zero}
use Rattle.sem_mir.specs.ValueId.{Fixed, place_token}
use Rattle.sem_machine.specs.Machine.{address_of, place_content}
use Rattle.machine_steps_proof.specs.Beside.{frame_low}
use Rattle.machine_steps_proof.specs.Places.{PlacesHold}
use Rattle.machine_steps_proof.proofs.Slots.{slot_offset, slot_up}

-- the frame's addresses don't wrap
no_wrap : (entry size area o : ℕ) → FRAME_ROOM ≤ entry → entry < 2 ^ 64 → size ≤ MAX_FRAME → o < size - area → (entry - size + o) % 2 ^ 64 ≡ entry - size + o
no_wrap entry size area o room top small lt = omega (arith, room, top, small, lt)

pub places_hold : PlacesHold
places_hold f framed resolve n p t path value c d names same m beside pointer place k e = by_place place e where
  by_place : (x : Place) → place_token (Some x) t ≡ Some k → place_content x m ≡ value k
  by_place (Register r) h =
      beside.regs r ∙ ap (λ (regs : ℕ → Option ℕ). or_zero (content regs r)) same.regs ∙ ap or_zero (names.regs r k h)
  by_place (Slot o) h =
      let offset = slot_offset f framed resolve path o k h in
      let up = slot_up f framed resolve path o k h in
      let written : d.slots o ≡ Some (value k) = ap (λ (slots : ℕ → Option ℕ). slots o) same.slots ∙ names.slots o k h in
      let two = beside.regs 2 ∙ pointer ∙ ap (λ (x : ℕ). d.entry - x) up in
      let at : address_of m 2 o ≡ frame_low f d + o = ap (λ (x : ℕ). (x + o) % 2 ^ 64) two
      ∙ no_wrap d.entry f.size (area_of f.objects) o beside.room beside.top framed.small offset.1 in
      ap (λ (a : ℕ). spelled m.memory a 8) at ∙ sym (beside.slots o (value k) offset written)
  by_place (Const z) h =
      let held : Some (Fixed (word z)) ≡ Some k = h in
      let is : Fixed (word z) ≡ k = cc in
      sym (names.numbers (word z)) ∙ ap value is
