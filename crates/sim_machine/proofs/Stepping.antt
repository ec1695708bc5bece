-- Steps of the machine by what stands at its counter.
use Rattle.std.proofs.Common.{◌≡◌, ℕ, List, [], ◌∷◌, Option, Some, None, Result, Ok, Err, Bool, true, false, cond, nat_eq, refl, sym, ap, ◌∙◌, subst}
use Rattle.std.specs.Result.{IfOk}
use Rattle.std.proofs.lemmas.Bool.{eq-eqb, ne_eqb}
use Rattle.std.specs.Option.{option_map}
use Rattle.rv64_instr.specs.declared.symbol.Symbol.{Symbol}
use Rattle.rv64_instr.specs.Linked.{addresses_in}
use Rattle.rv64_word.specs.Linked.{linked_word}
use Rattle.sim_machine.specs.Shown.{entry_row}
use Rattle.rv64_instr.specs.declared.decoded.Callee.{Callee as Decoded}
use Rattle.rv64_instr.specs.declared.decoded.Way.{Way}
use Rattle.rv64_instr.specs.declared.decoded.Way.TheVariants.{Back as Returns, Tail as Tails, Never as Leads}
use Rattle.rv64_instr.specs.Decoded.{ShowsCallee, ShowsWay}
use Rattle.rv64_instr.specs.Row.{Row, Calls, row_of, implicit_uses, CallSite, Callee, Ending, Way as LeavingWay, Back}
use Rattle.rv64_word.specs.declared.machine_op.MachineOp.{MachineOp}
use Rattle.rv64_word.specs.Decoded.{decoded}
use Rattle.rv64_word.specs.MachineRow.{machine_row}
use Rattle.mir_func.specs.Function.{FramedFunction}
use Rattle.emit_code.specs.declared.code.EncodedInstruction.{EncodedInstruction}
use Rattle.emit_code.specs.Laid.{LaidCode}
use Rattle.sem_machine.specs.Image.{CodeLine, Image, line_at, word_at}
use Rattle.sem_machine.specs.Machine.{Machine}
use Rattle.sem_machine.specs.MachineStep.{Ends, Leaves, BadWord as BadStep, machine_step, does_at, does_line, does_call, does_ending, goes_to, leaves_by}
use Rattle.sem_machine.specs.MachineStep.{does_word, does_operation, does, step_call as answered, call_of, return_word}
use Rattle.sem_machine.specs.MachineStep.{called_at, passed, callee_size, does_left, result_at}
use Rattle.rv64_instr.specs.Instruction.{Instruction}
use Rattle.rv64_instr.specs.LocationEffects.{is_call}
use Rattle.rv64_instr.specs.declared.start.CallEvent.{CallEvent}
use Rattle.sem_mir.specs.State.{Reply, writes_frame}
use Rattle.sim_machine.specs.declared.ending.Stepped.{Stepped}
use Rattle.sim_machine.specs.declared.ending.Stepped.TheVariants.{Went, Stopped}
use Rattle.sim_machine.specs.declared.ending.Stop.TheVariants.{Ended, Left, BadWord}
use Rattle.sim_machine.specs.declared.hart.Hart.{Hart}
use Rattle.sim_machine.specs.Kept.{StandsFor, Goes}
use Rattle.sim_machine.specs.Calls.{event_of, after_call}
use Rattle.sim_machine.specs.declared.site.Transfer.TheVariants.{Call, Departure}
use Rattle.sim_machine.specs.Running.{line_left, StandsThere, StopsSo, found_call, call_at, StepsOn, CallsOn}
use Rattle.sim_machine.specs.steps.Sites.{TransfersSo, GoesThere}
use Rattle.sim_machine.specs.Shown.{IsLineOf, AreLinesOf, ShowsCode, entry_at, entry_call, entry_left}

-- ---- lines

pub line_none : (f : FramedFunction) (es : List EncodedInstruction) (ls : List CodeLine) (a : ℕ) → AreLinesOf f es ls → entry_at es a ≡ None →
    line_at ls a ≡ None
line_none f [] [] a h e = refl
line_none f [] (l ∷ ls) a h e = absurd h
line_none f (x ∷ es) [] a h e = absurd h
line_none f (x ∷ es) (l ∷ ls) a h e = by_test (nat_eq x.address a) (ap (λ (n : ℕ). nat_eq n a) h.0.address) e (λ q. line_none f es ls a h.1 q) where
  by_test : (t : Bool) → nat_eq l.address a ≡ t → cond t (Some x) (entry_at es a) ≡ None → (entry_at es a ≡ None → line_at ls a ≡ None) →
      cond (nat_eq l.address a) (Some l) (line_at ls a) ≡ None
  by_test true q r later = absurd cc
  by_test false q r later = ap (λ (t : Bool). cond t (Some l) (line_at ls a)) q ∙ later r

-- the line of an entry
pub record LineAt (f : FramedFunction) (e : EncodedInstruction) (ls : List CodeLine) (a : ℕ) : Type 0 where
  pub line : CodeLine
  pub stands : line_at ls a ≡ Some line
  pub is : IsLineOf f e line

pub line_some : (f : FramedFunction) (es : List EncodedInstruction) (ls : List CodeLine) (a : ℕ) (e : EncodedInstruction) → AreLinesOf f es ls →
    entry_at es a ≡ Some e → LineAt f e ls a
line_some f [] [] a e h s = absurd cc
line_some f [] (l ∷ ls) a e h s = absurd h
line_some f (x ∷ es) [] a e h s = absurd h
line_some f (x ∷ es) (l ∷ ls) a e h s = by_test (nat_eq x.address a) (ap (λ (n : ℕ). nat_eq n a) h.0.address) s (λ q. line_some f es ls a e h.1 q) where
  by_test : (t : Bool) → nat_eq l.address a ≡ t → cond t (Some x) (entry_at es a) ≡ Some e → (entry_at es a ≡ Some e → LineAt f e ls a) → LineAt f e (l ∷ ls) a
  by_test true q r later =
      let same : x ≡ e = cc in
      record { line = l; stands = ap (λ (t : Bool). cond t (Some l) (line_at ls a)) q; is = subst (λ (y : EncodedInstruction). IsLineOf f y l) same h.0 }
  by_test false q r later =
      let p = later r in record { line = p.line; stands = ap (λ (t : Bool). cond t (Some l) (line_at ls a)) q ∙ p.stands; is = p.is }

-- ---- steps

pub left_step : (c : LaidCode) (image : Image) (s : Machine) → ShowsCode c image → entry_at c.entries s.counter ≡ None → machine_step image s ≡ Leaves
left_step c image s shows e =
    ap (λ (o : Option CodeLine). does_at image o s) (line_none c.framed c.entries image.lines s.counter shows.lines e)

-- a word elsewhere than at a call site
pub record WordStep (image : Image) (s : Machine) (w : ℕ) : Type 0 where
  pub ending : Ending Callee
  pub back : ending.way ≡ Back
  pub is : machine_step image s ≡ cond (nat_eq w return_word) (Ends (result_at s ending)) (does_operation (decoded w) s)

pub word_step : (c : LaidCode) (image : Image) (s : Machine) (e : EncodedInstruction) (w : ℕ) → ShowsCode c image → entry_at c.entries s.counter ≡ Some e →
    entry_call c.framed e ≡ None → entry_left c.framed e ≡ None → (v : ℕ) → word_at image.text s.counter ≡ Some v →
    w ≡ linked_word s.symbols (entry_row c.framed e) v → WordStep image s w
word_step c image s e w shows found none stays v word linked =
    let l = line_some c.framed c.entries image.lines s.counter e shows.lines found in
    record {
      ending = record { way = Back; values = implicit_uses l.line.instruction.operands };
      back = refl;
      is = ap (λ (o : Option CodeLine). does_at image o s) l.stands
          ∙ ap (λ (o : Option CallSite). does_line image l.line o s) (l.is.call ∙ none)
          ∙ ap (λ (o : Option (Ending Callee)). does_left image l.line o s) (l.is.left ∙ stays)
          ∙ ap (λ (o : Option ℕ). does_word l.line (option_map (linked_word s.symbols (row_of l.line.instruction)) o) s) word
          ∙ ap (λ (x : ℕ). does_word l.line (Some x) s) (l.is.links s.symbols v ∙ sym linked);
    }

pub call_step : (c : LaidCode) (image : Image) (s : Machine) (e : EncodedInstruction) (site : CallSite) → ShowsCode c image →
    entry_at c.entries s.counter ≡ Some e →
    entry_call c.framed e ≡ Some site → machine_step image s ≡ does_call site (word_at image.text s.counter) s
call_step c image s e site shows found some =
    let l = line_some c.framed c.entries image.lines s.counter e shows.lines found in
    ap (λ (o : Option CodeLine). does_at image o s) l.stands ∙ ap (λ (o : Option CallSite). does_line image l.line o s) (l.is.call ∙ some)

-- where control leaves the function for a callee, the run ends
departure_step : (c : LaidCode) (image : Image) (s : Machine) (e : EncodedInstruction) (ending : Ending Callee) → ShowsCode c image →
    entry_at c.entries s.counter ≡ Some e → entry_call c.framed e ≡ None → entry_left c.framed e ≡ Some ending →
    machine_step image s ≡ does_ending ending (word_at image.text s.counter) s
departure_step c image s e ending shows found none leaves =
    let l = line_some c.framed c.entries image.lines s.counter e shows.lines found in
    ap (λ (o : Option CodeLine). does_at image o s) l.stands ∙ ap (λ (o : Option CallSite). does_line image l.line o s) (l.is.call ∙ none)
    ∙ ap (λ (o : Option (Ending Callee)). does_left image l.line o s) (l.is.left ∙ leaves)

pub return_step : (image : Image) (s : Machine) (w : ℕ) (h : WordStep image s w) → w ≡ return_word → StopsSo (Ended Returns) image s
return_step image s w h e =
    (h.ending, h.is ∙ ap (λ (t : Bool). cond t (Ends (result_at s h.ending)) (does_operation (decoded w) s)) (eq-eqb w return_word e), h.back, tt)

pub other_step : (image : Image) (s : Machine) (w : ℕ) (o : Option MachineOp) → WordStep image s w → (w ≡ return_word → ⊥) → decoded w ≡ o →
    machine_step image s ≡ does_operation o s
other_step image s w o h ne d =
    h.is ∙ (ap (λ (t : Bool). cond t (Ends (result_at s h.ending)) (does_operation (decoded w) s)) (ne_eqb w return_word ne) ∙ ap
    (λ (x : Option MachineOp). does_operation x s) d)

-- ---- as they are kept

-- the entry at the counter
pub found_at : (c : LaidCode) (h : Hart) (s : Machine) (o : Option EncodedInstruction) → StandsFor h s → entry_at c.entries h.counter ≡ o →
    entry_at c.entries s.counter ≡ o
found_at c h s o stands e = ap (entry_at c.entries) stands.counter ∙ e

pub word_step_at : (c : LaidCode) (image : Image) (h : Hart) (s : Machine) (e : EncodedInstruction) (w : ℕ) → ShowsCode c image → StandsFor h s →
    entry_at c.entries h.counter ≡ Some e → e.address ≡ h.counter → (v : ℕ) → word_at image.text e.address ≡ Some v →
    w ≡ linked_word (addresses_in h.symbols) (entry_row c.framed e) v → entry_left c.framed e ≡ None → call_at c s.counter ≡ None → WordStep image s w
word_step_at c image h s e w shows stands found at v word linked stays none =
    let here = found_at c h s (Some e) stands found in
    word_step c image s e w shows here (sym (ap (found_call c.framed) here) ∙ none) stays
    v (ap (word_at image.text) (stands.counter ∙ sym at) ∙ word)
    (linked ∙ ap (λ (x : Symbol → ℕ). linked_word x (entry_row c.framed e) v) (sym stands.symbols))

pub call_step_at : (c : LaidCode) (image : Image) (h : Hart) (s : Machine) (e : EncodedInstruction) (site : CallSite) → ShowsCode c image → StandsFor h s →
    entry_at c.entries h.counter ≡ Some e → call_at c s.counter ≡ Some site → machine_step image s ≡ does_call site (word_at image.text s.counter) s
call_step_at c image h s e site shows stands found some =
    let here = found_at c h s (Some e) stands found in
    call_step c image s e site shows here (sym (ap (found_call c.framed) here) ∙ some)

-- the word at a machine's counter is the entry's
word_there : (c : LaidCode) (image : Image) (h : Hart) (s : Machine) (e : EncodedInstruction) (o : Option ℕ) → StandsFor h s → h.counter ≡ e.address →
    word_at image.text e.address ≡ o → word_at image.text s.counter ≡ o
word_there c image h s e o stands at word = ap (word_at image.text) (stands.counter ∙ at) ∙ word

-- the call of an entry that is none, and of one that is
pub entry_call_at : (c : LaidCode) (h : Hart) (s : Machine) (o : Option EncodedInstruction) → StandsFor h s → entry_at c.entries h.counter ≡ o →
    call_at c s.counter ≡ found_call c.framed o
entry_call_at c h s o stands e = ap (found_call c.framed) (found_at c h s o stands e)

-- a step that an operation makes
pub operation_step : (image : Image) (s : Machine) (w : ℕ) (m : MachineOp) (now : Hart) → WordStep image s w → (w ≡ return_word → ⊥) → decoded w ≡ Some m →
    Goes (does (machine_row s.counter m) s) now → Goes (machine_step image s) now
operation_step image s w m now h ne d g = record { to = g.to; goes = other_step image s w (Some m) h ne d ∙ g.goes; stands = g.stands }

-- a step that an answer makes
pub answer_step : (image : Image) (s : Machine) (site : CallSite) (r : Reply) (rest : List Reply) (now : Hart) →
    machine_step image s ≡ answered (callee_size site.callee) (called_at s site.callee) (passed s site) site.outgoing s s.script → s.script ≡ r ∷ rest →
    StandsFor now (after_call site r rest s) →
    Goes (machine_step image s) now
answer_step image s site r rest now e script stands = record {
  to = after_call site r rest s;
  goes = e ∙ ap (answered (callee_size site.callee) (called_at s site.callee) (passed s site) site.outgoing s) script;
  stands = stands;
}

-- ---- whole steps

-- an answer where none is asked for
abbrev no_reply : Reply
no_reply = record { regs = []; writes = []; below = [] }

-- nothing begins at the counter
pub steps_left : (c : LaidCode) (h : Hart) → entry_at c.entries h.counter ≡ None → StepsOn c (Stopped Left) h h
steps_left c h e image s shows stands none = left_step c image s shows (found_at c h s None stands e)

pub calls_left : (gives : CallEvent → Reply → Type 0) (c : LaidCode) (h : Hart) → entry_at c.entries h.counter ≡ None → CallsOn gives c (Stopped Left) h h
calls_left gives c h e = record {
  reply = no_reply;
  calls = λ image s site shows stands some. (
      let no : ◌≡◌ {A = Option CallSite} None (Some site) = sym (entry_call_at c h s None stands e) ∙ some in absurd cc);
}

stands_there : (way : Way) (left : Option (Ending Callee)) (ending : Ending Callee) → left ≡ Some ending → StandsThere left ending way
stands_there Returns left ending e = tt
stands_there (Tails callee) left ending e = e
stands_there (Leads callee) left ending e = e

-- control leaves the function for a callee, unless the word doesn't go there
pub steps_departure : (c : LaidCode) (h : Hart) (e : EncodedInstruction) (way : Way) (word : ℕ) (leaves : Bool) → entry_at c.entries e.address ≡ Some e →
    h.counter ≡ e.address → TransfersSo (Departure way) (entry_call c.framed e) (entry_left c.framed e) →
    ((image : Image) → ShowsCode c image → word_at image.text e.address ≡ Some word) →
    ((w : LeavingWay Callee) (counter : ℕ) → ShowsWay way w → leaves ≡ leaves_by w counter (Some word)) →
    StepsOn c (Stopped (cond leaves (Ended way) (BadWord word))) h h
steps_departure c h e way word leaves found at to shown tells image s shows stands none = by_word leaves refl where
  there : word_at image.text s.counter ≡ Some word
  there = word_there c image h s e (Some word) stands at (shown image shows)

  here : entry_at c.entries s.counter ≡ Some e
  here = ap (entry_at c.entries) (stands.counter ∙ at) ∙ found

  left : line_left (line_at image.lines s.counter) ≡ Some to.0
  left = let l = line_some c.framed c.entries image.lines s.counter e shows.lines here in ap line_left l.stands ∙ (l.is.left ∙ to.1)

  step : machine_step image s ≡ cond leaves (Ends (result_at s to.0)) BadStep
  step =
      departure_step c image s e to.0 shows here to.2 to.1
      ∙ ap (λ (o : Option ℕ). does_ending to.0 o s) there
      ∙ ap (λ (t : Bool). cond t (Ends (result_at s to.0)) BadStep) (sym (tells to.0.way s.counter to.3))

  by_word : (t : Bool) → leaves ≡ t → StopsSo (cond t (Ended way) (BadWord word)) image s
  by_word true is = (to.0, step ∙ ap (λ (t : Bool). cond t (Ends (result_at s to.0)) BadStep) is, to.3, stands_there way _ to.0 left)
  by_word false is = (step ∙ ap (λ (t : Bool). cond t (Ends (result_at s to.0)) BadStep) is, there)

-- an entry that is no call makes none
pub calls_word : (gives : CallEvent → Reply → Type 0) (c : LaidCode) (r : Stepped) (h new : Hart) (e : EncodedInstruction) →
    entry_at c.entries h.counter ≡ Some e →
    entry_call c.framed e ≡ None → CallsOn gives c r h new
calls_word gives c r h new e found none = record {
  reply = no_reply;
  calls = λ image s site shows stands some. (
      let no : ◌≡◌ {A = Option CallSite} None (Some site) = sym none ∙ (sym (entry_call_at c h s (Some e) stands found) ∙ some) in
      absurd cc);
}

pub calls_word_if : {E : Type 0} (result : Result Stepped E) (gives : CallEvent → Reply → Type 0) (c : LaidCode) (h new : Hart) (e : EncodedInstruction) →
    entry_at c.entries h.counter ≡ Some e → entry_call c.framed e ≡ None → IfOk result (λ r. CallsOn gives c r h new)
calls_word_if (Ok r) gives c h new e found none = calls_word gives c r h new e found none
calls_word_if (Err x) gives c h new e found none = tt

calls_some : (r : Row) → is_call r ≡ true → call_of r ≡ None → ⊥
calls_some (Calls call) c e = cc
calls_some _ c e = cc

-- a call site makes a call
pub steps_call : (c : LaidCode) (r : Stepped) (h new : Hart) (e : EncodedInstruction) (i : Instruction) → entry_at c.entries h.counter ≡ Some e →
    entry_call c.framed e ≡ call_of (row_of i) → is_call (row_of i) ≡ true → StepsOn c r h new
steps_call c r h new e i found same call image s shows stands none =
    absurd (calls_some (row_of i) call (sym same ∙ (sym (entry_call_at c h s (Some e) stands found) ∙ none)))

-- the same by the call of the entry
pub steps_site : (c : LaidCode) (r : Stepped) (h new : Hart) (e : EncodedInstruction) (site : CallSite) → entry_at c.entries h.counter ≡ Some e →
    entry_call c.framed e ≡ Some site → StepsOn c r h new
steps_site c r h new e site found call image s shows stands none =
    let no : ◌≡◌ {A = Option CallSite} (Some site) None = sym call ∙ (sym (entry_call_at c h s (Some e) stands found) ∙ none) in
    absurd cc

-- an entry's callee as it is decoded is its call's
callee_shown : (c : LaidCode) (e : EncodedInstruction) (callee : Decoded) (site : CallSite) → TransfersSo (Call callee) (entry_call c.framed e) None →
    entry_call c.framed e ≡ Some site → ShowsCallee callee site.callee
callee_shown c e callee site to some =
    let same : Some to.0 ≡ Some site = sym to.1 ∙ some in
    let one : to.0 ≡ site = cc in
    subst (λ (x : CallSite). ShowsCallee callee x.callee) one to.2

pub goes_there : (c : LaidCode) (e : EncodedInstruction) (callee : Decoded) (word : ℕ) → TransfersSo (Call callee) (entry_call c.framed e) None →
    ((image : Image) → ShowsCode c image → word_at image.text e.address ≡ Some word) →
    ((x : Callee) (counter : ℕ) → ShowsCallee callee x → true ≡ goes_to 1 x counter (Some word)) → GoesThere c e
goes_there c e callee word to shown tells image site counter shows some =
    ap (goes_to 1 site.callee counter) (shown image shows) ∙ sym (tells site.callee counter (callee_shown c e callee site to some))

-- a call whose word doesn't go to its callee stops
pub call_stopped : (gives : CallEvent → Reply → Type 0) (c : LaidCode) (h : Hart) (e : EncodedInstruction) (callee : Decoded) (word : ℕ) →
    entry_at c.entries h.counter ≡ Some e → h.counter ≡ e.address → TransfersSo (Call callee) (entry_call c.framed e) None →
    ((image : Image) → ShowsCode c image → word_at image.text e.address ≡ Some word) →
    ((x : Callee) (counter : ℕ) → ShowsCallee callee x → false ≡ goes_to 1 x counter (Some word)) → CallsOn gives c (Stopped (BadWord word)) h h
call_stopped gives c h e callee word found at to shown tells = record {
  reply = no_reply;
  calls = λ image s site shows stands some. (
      let there = word_there c image h s e (Some word) stands at (shown image shows) in
      let call = sym (entry_call_at c h s (Some e) stands found) ∙ some in
      let made = answered (callee_size site.callee) (called_at s site.callee) (passed s site) site.outgoing s s.script in (
        call_step_at c image h s e site shows stands found some ∙ ap (λ (o : Option ℕ). does_call site o s) there
            ∙ ap (λ (t : Bool). cond t made BadStep) (sym (tells site.callee s.counter (callee_shown c e callee site to call))),
        there,
      ));
}

pub call_made : (gives : CallEvent → Reply → Type 0) (c : LaidCode) (h new : Hart) (e : EncodedInstruction) (i : Instruction) (event : CallEvent) (r : Reply) →
    entry_at c.entries h.counter ≡ Some e → h.counter ≡ e.address → GoesThere c e → entry_call c.framed e ≡ call_of (row_of i) →
    ((s : Machine) (site : CallSite) → StandsFor h s → call_of (row_of i) ≡ Some site → event ≡ event_of site s) → gives event r →
    writes_frame h.entry h.area r.writes ≡ false →
    ((s : Machine) (site : CallSite) (rest : List Reply) → StandsFor h s → call_of (row_of i) ≡ Some site → StandsFor new (after_call site r rest s)) →
    CallsOn gives c Went h new
call_made gives c h new e i event r found at goes same shown given apart takes = record {
  reply = r;
  calls = λ image s site shows stands some. (
      let here = sym (entry_call_at c h s (Some e) stands found) ∙ some in
      let call = sym same ∙ here in
      let there = word_there c image h s e (word_at image.text e.address) stands at refl in
      let made = answered (callee_size site.callee) (called_at s site.callee) (passed s site) site.outgoing s s.script in
      let step =
      call_step_at c image h s e site shows stands found some
      ∙ ap (λ (t : Bool). cond t made BadStep) (ap (goes_to 1 site.callee s.counter) there ∙ goes image site s.counter shows here) in
      record {
        given = subst (λ (x : CallEvent). gives x r) (shown s site stands call) given;
        apart = ap (λ (n : ℕ). writes_frame n s.area r.writes) stands.entry ∙ (ap (λ (n : ℕ). writes_frame h.entry n r.writes) stands.area ∙ apart);
        goes = λ rest script. answer_step image s site r rest new step script (takes s site rest stands call);
      });
}

-- the entry at the counter begins at its address
pub at_address : (c : LaidCode) (h : Hart) (e : EncodedInstruction) → entry_at c.entries h.counter ≡ Some e → e.address ≡ h.counter →
    entry_at c.entries e.address ≡ Some e
at_address c h e found at = ap (entry_at c.entries) at ∙ found
