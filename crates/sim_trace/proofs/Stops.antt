-- How a run stops, as it is written.
use Rattle.std.proofs.Common.{◌≡◌, ℕ, List, [], ◌∷◌, ◌++◌, codes, Option, Some, None, refl, sym, ap, ◌∙◌, append_assoc}
use Rattle.rv64_instr.specs.declared.decoded.Callee.{Callee as Decoded}
use Rattle.rv64_instr.specs.declared.decoded.Way.{Way}
use Rattle.rv64_instr.specs.declared.decoded.Way.TheVariants.{Back, Tail, Never}
use Rattle.rv64_instr.specs.declared.start.CallTarget.{CallTarget}
use Rattle.rv64_instr.specs.Decoded.{ShowsWay}
use Rattle.rv64_instr.specs.Row.{Callee, Ending, Way as LeavingWay}
use Rattle.sem_machine.specs.Image.{Image, line_at}
use Rattle.sem_machine.specs.Machine.{Machine, register}
use Rattle.sem_machine.specs.MachineStep.{Stepped, called_at, way_at}
use Rattle.emit_code.specs.declared.code.EncodedInstruction.{EncodedInstruction}
use Rattle.emit_code.specs.Laid.{LaidCode}
use Rattle.sim_machine.specs.declared.ending.Stop.TheVariants.{Ended, Left, BadWord}
use Rattle.sim_machine.specs.declared.hart.Hart.{Hart}
use Rattle.sim_machine.specs.Departures.{way_target, found_left, left_at}
use Rattle.sim_machine.specs.Kept.{StandsFor}
use Rattle.sim_machine.specs.Running.{line_left, StandsThere}
use Rattle.sim_machine.specs.Shown.{ShowsCode, entry_at}
use Rattle.sim_machine.proofs.Departures.{Tells}
use Rattle.sim_machine.proofs.Stepping.{line_none, line_some}
use Rattle.sim_trace.specs.Lines.{left_line, return_line, end_line, stop_line}
use Rattle.sim_trace.specs.steps.Printed.{IsStopAdded, IsFor}

-- ---- lines

-- a line of two parts
pub line_of : (text label rest made with more : List ℕ) → made ≡ text ++ label → with ≡ made ++ rest → more ≡ with ++ 10 ∷ [] →
    more ≡ text ++ (label ++ rest ++ 10 ∷ [])
line_of text label rest made with more p q r =
    r ∙ ap (λ (xs : List ℕ). xs ++ 10 ∷ []) (q ∙ (ap (λ (xs : List ℕ). xs ++ rest) p ∙ append_assoc text label rest))
    ∙ append_assoc text (label ++ rest) (10 ∷ [])

-- ---- on which way a run ends

abbrev pub TellsWay : Hart → Option CallTarget → (text more : List ℕ) → Way → Type 0
TellsWay h target text more way = (s : Machine) (w : LeavingWay Callee) → StandsFor h s → ShowsWay way w → IsFor s target way w →
    more ≡ text ++ end_line (way_at s w) s

pub back_told : (h : Hart) (target : Option CallTarget) (text more : List ℕ) (v : ℕ) → ((s : Machine) → StandsFor h s → v ≡ register s 10) →
    more ≡ text ++ return_line v → TellsWay h target text more Back
back_told h target text more v read is s w stands shows named =
    is ∙ ap (λ (x : ℕ). text ++ return_line x) (read s stands) ∙ ap (λ (x : LeavingWay Callee). text ++ end_line (way_at s x) s) (sym shows)

-- a line tells what is left for
abbrev pub TellsTarget : Option CallTarget → (text more how : List ℕ) → Type 0
TellsTarget target text more how = (t : CallTarget) → target ≡ Some t → more ≡ text ++ left_line how t

pub tail_told : (h : Hart) (target : Option CallTarget) (text more : List ℕ) (callee : Decoded) → TellsTarget target text more (codes "stop tailed ") →
    TellsWay h target text more (Tail callee)
tail_told h target text more callee told s w stands (c, is, shown) named =
    told (called_at s c) (named ∙ ap (way_target s) is) ∙ ap (λ (x : LeavingWay Callee). text ++ end_line (way_at s x) s) (sym is)

pub never_told : (h : Hart) (target : Option CallTarget) (text more : List ℕ) (callee : Decoded) → TellsTarget target text more (codes "stop gone ") →
    TellsWay h target text more (Never callee)
never_told h target text more callee told s w stands (c, is, shown) named =
    told (called_at s c) (named ∙ ap (way_target s) is) ∙ ap (λ (x : LeavingWay Callee). text ++ end_line (way_at s x) s) (sym is)

-- ---- why a run stops

-- where an ending stands at the line, it stands at the entry
left_stands : (c : LaidCode) (image : Image) (s : Machine) (ending : Ending Callee) → ShowsCode c image →
    line_left (line_at image.lines s.counter) ≡ Some ending → left_at c s.counter ≡ Some ending
left_stands c image s ending shows left = by_entry (entry_at c.entries s.counter) refl where
  by_entry : (o : Option EncodedInstruction) → entry_at c.entries s.counter ≡ o → left_at c s.counter ≡ Some ending
  by_entry None e =
      let none : ◌≡◌ {A = Option (Ending Callee)} None (Some ending) =
      sym (ap line_left (line_none c.framed c.entries image.lines s.counter shows.lines e)) ∙ left in
      absurd cc
  by_entry (Some x) e =
      let l = line_some c.framed c.entries image.lines s.counter x shows.lines e in
      ap (found_left c.framed) e ∙ (sym (ap line_left l.stands ∙ l.is.left) ∙ left)

pub left_added : (c : LaidCode) (h : Hart) (text more : List ℕ) → more ≡ text ++ codes "stop left\n" → IsStopAdded c Left h text more
left_added c h text more is image s shows stands stops = is ∙ ap (λ (r : Stepped). text ++ stop_line r s) (sym stops)

pub bad_word_added : (c : LaidCode) (w : ℕ) (h : Hart) (text more : List ℕ) → more ≡ text ++ codes "stop bad word\n" →
    IsStopAdded c (BadWord w) h text more
bad_word_added c w h text more is image s shows stands stops = is ∙ ap (λ (r : Stepped). text ++ stop_line r s) (sym stops.0)

pub ended_added : (c : LaidCode) (way : Way) (target : Option CallTarget) (h : Hart) (text more : List ℕ) → Tells h (left_at c h.counter) target →
    TellsWay h target text more way → IsStopAdded c (Ended way) h text more
ended_added c way target h text more named told image s shows stands (ending, step, ways, there) =
    told s ending.way stands ways (is_for way there) ∙ ap (λ (r : Stepped). text ++ stop_line r s) (sym step) where
      at_entry : line_left (line_at image.lines s.counter) ≡ Some ending → target ≡ way_target s ending.way
      at_entry left = named s ending stands (ap (left_at c) (sym stands.counter) ∙ left_stands c image s ending shows left)

      is_for : (w : Way) → StandsThere (line_left (line_at image.lines s.counter)) ending w → IsFor s target w ending.way
      is_for Back left = tt
      is_for (Tail callee) left = at_entry left
      is_for (Never callee) left = at_entry left
