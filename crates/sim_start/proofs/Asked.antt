-- The run with values for its calls is the one that is asked for.
use Rattle.std.proofs.Common.{◌≡◌, ℕ, zero, suc, ◌+◌, ◌-◌, ◌<◌, ◌≤◌, ◌%◌, ◌^◌, List, [], ◌∷◌, ◌++◌, length, get_or, refl, sym, ap, ◌∙◌, arith}
use Rattle.std.proofs.lemmas.List.{append-nil}
use Rattle.rv64_instr.specs.Linked.{addresses_in}
use Rattle.rv64_instr.specs.declared.symbol.Symbol.{Symbol}
use Rattle.rv64_instr.specs.declared.start.CallEvent.{CallEvent}
use Rattle.rv64_instr.specs.declared.start.Start.{Start}
use Rattle.sem_mir.specs.State.{Reply, written}
use Rattle.sem_machine.specs.Machine.{Machine, register, register_in}
use Rattle.emit_code.specs.Laid.{LaidCode}
use Rattle.sim_trace.specs.sim_machine.Machines.{StartsCode}
use Rattle.sim_trace.specs.sim_proof.Runs.{WereGiven}
use Rattle.sim_trace.specs.declared.variable.Variable.{Variable}
use Rattle.sim_trace.specs.Run.{IsTextOfRun}
use Rattle.sim_start.specs.InitialMachine.{start_register, BeginsRun, reply_to, replies, IsTextOfAskedRun}

-- the answers that values give
abbrev Gives : (values : List ℕ) → CallEvent → Reply → Type 0
Gives values e r = r ≡ reply_to values e.number

-- answers that were given to the calls from a number on are those of the values
are_replies : (values : List ℕ) (n : ℕ) (answers : List Reply) → n + length answers < 2 ^ 64 → WereGiven (Gives values) n answers →
    answers ≡ replies values n (length answers)
are_replies values n [] low h = refl
are_replies values n (r ∷ rest) low h =
    let small : n % 2 ^ 64 ≡ n = omega (arith, low) in
    let first : r ≡ reply_to values n = h.0.given ∙ ap (reply_to values) (h.0.numbered ∙ small) in
    let later = are_replies values (suc n) rest (omega (arith, low)) h.1 in
    ap (λ (x : Reply). x ∷ rest) first ∙ ap (λ (xs : List Reply). reply_to values n ∷ xs) later

-- so many answers, and then more
split_replies : (values : List ℕ) (n a b : ℕ) → replies values n (a + b) ≡ replies values n a ++ replies values (n + a) b
split_replies values n zero b =
    let none : 0 + b ≡ b = omega arith in
    let same : n ≡ n + 0 = omega arith in
    ap (replies values n) none ∙ ap (λ (k : ℕ). replies values k b) same
split_replies values n (suc a) b =
    let one : suc a + b ≡ suc (a + b) = omega arith in
    let next : suc n + a ≡ n + suc a = omega arith in
    ap (replies values n) one
    ∙ ap (λ (xs : List Reply). reply_to values n ∷ xs) (split_replies values (suc n) a b ∙ ap (λ (k : ℕ). replies values (suc n) a ++ replies values k b) next)

pub starts : (c : LaidCode) (addresses : List (Symbol × ℕ)) (arguments : List ℕ) (start : Start) (s : Machine) →
    ((r : ℕ) → r < 32 → get_or start.regs r 0 ≡ start_register arguments r) →
    start.memory ≡ [] → start.symbols ≡ addresses → BeginsRun c addresses arguments s → StartsCode c start s
starts c addresses arguments start s regs memory symbols b = record {
  entry = b.entry ∙ sym (regs 2 (omega arith));
  area = b.area;
  symbols = b.symbols ∙ ap addresses_in (sym symbols);
  counter = b.counter;
  regs = at_register;
  memory = at_address;
  events = b.events;
} where
  at_register : (r : ℕ) → r < 32 → register s r ≡ register_in (λ (k : ℕ). get_or start.regs k 0) r
  at_register zero l = refl
  at_register (suc r) l = b.regs (suc r) l ∙ sym (regs (suc r) l)

  at_address : (a : ℕ) → s.memory a ≡ written (λ _. 0) start.memory a
  at_address a = b.memory a ∙ ap (λ (cells : List (ℕ × ℕ)). written (λ _. 0) cells a) (sym memory)

-- the machine with another script
with_script : List Reply → Machine → Machine
with_script script s = record s { script = script }

begins_so : (c : LaidCode) (addresses : List (Symbol × ℕ)) (arguments : List ℕ) (script : List Reply) (s : Machine) → BeginsRun c addresses arguments s →
    BeginsRun c addresses arguments (with_script script s)
unfolding with_script
begins_so c addresses arguments script s b =
    record { entry = b.entry; area = b.area; symbols = b.symbols; counter = b.counter; regs = b.regs; memory = b.memory; events = b.events }

script_is : (script : List Reply) (s : Machine) → (with_script script s).script ≡ script
unfolding with_script
script_is script s = refl

pub asked : (c : LaidCode) (addresses : List (Symbol × ℕ)) (arguments values : List ℕ) (start : Start) (variables : List Variable) (limit : ℕ)
    (text : List ℕ) → limit < 2 ^ 32 → ((r : ℕ) → r < 32 → get_or start.regs r 0 ≡ start_register arguments r) → start.memory ≡ [] →
    start.symbols ≡ addresses → IsTextOfRun (Gives values) c start variables limit text → IsTextOfAskedRun c addresses arguments values variables limit text
asked c addresses arguments values start variables limit text low regs memory symbols h image s shows b script =
    let answers = h.answers in
    let n : ℕ = length answers in
    let s1 = with_script answers s in
    let first = h.has image s1 [] shows (starts c addresses arguments start s1 regs memory symbols (begins_so c addresses arguments answers s b))
    (script_is answers s ∙ sym (append-nil answers)) in
    let few : n ≤ limit = first.few in
    let are : answers ≡ replies values 1 n = are_replies values 1 answers (omega (arith, few, low)) first.given in
    let whole : limit ≡ n + (limit - n) = omega (arith, few) in
    let rest = replies values (1 + n) (limit - n) in
    let split : replies values 1 limit ≡ answers ++ rest =
    ap (replies values 1) whole ∙ (split_replies values 1 n (limit - n) ∙ ap (λ (xs : List Reply). xs ++ rest) (sym are)) in
    (h.has image s rest shows (starts c addresses arguments start s regs memory symbols b) (script ∙ split)).is
