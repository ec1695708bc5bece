-- A run reads no more than is known.
use Rattle.std.proofs.Common.{◌≡◌, ℕ, ◌≤◌, List, Option, Some, Bool, true, is_some, refl, sym, ap, subst, inl, inr, arith}
use Rattle.rv64_instr.specs.declared.place.Place.{Place}
use Rattle.mir_func.specs.declared.debug_substitution.OperandPair.{OperandPair}
use Rattle.mir_func.specs.declared.variable.VarId.{VarId}
use Rattle.mir_func.specs.Function.{Function}
use Rattle.mir_func.specs.Graph.{Program, program_of}
use Rattle.mir_func.specs.Variables.{part_value}
use Rattle.mir_func.specs.Positions.{position_of}
use Rattle.sem_mir.specs.Align.{First, Since}
use Rattle.sem_mir.specs.State.{State, assigned}
use Rattle.sem_mir.proofs.Alignment.{aligns_once, aligns_not_fails}
use Rattle.dwarf_loclists.specs.declared.range.Range.{Range}
use Rattle.sem_machine.specs.Headline.{Headline, StartsAt, AlignsWith, MachineAlong, MachineAgrees, at_start, after_step}
use Rattle.sem_machine.specs.Image.{CodeLine, Image, line_at}
use Rattle.sem_machine.specs.Machine.{Machine, machine_start, place_content}
use Rattle.selftest_count.specs.declared.counts.Counts.{Counts}
use Rattle.selftest_count.specs.Counts.{read_at, known_in, Counted, AreCounts, makes_steps, returns}
use Rattle.selftest_count.specs.Counts as counts
use Rattle.selftest_proof.specs.Known.{AreGiven, ReadsAreKnown}
use Rattle.selftest_proof.proofs.Fits.{Passes, fits}
use Rattle.selftest_proof.proofs.Marked.{AreAmong, none_marked, assigned_among, aligns_among}
use Rattle.selftest_proof.proofs.Told.{told_all, all_count, all_apart, all_known}
use Rattle.selftest_proof.proofs.Start.{start_state, begins_source, starts_at, begins_run}

some_value : (o : Option ℕ) (x : ℕ) → o ≡ Some x → is_some o ≡ true
some_value o x e = ap is_some e

module _ (gives : VarId → (address : ℕ) → Place → Type 0) (source : Function) (resolve : OperandPair → Option OperandPair) (image : Image)
    (lists : List (List Range)) (variables parts : List VarId) (headline : Headline source resolve image gives)
    (given : AreGiven gives source variables parts lists)
    (s0 : State) (start : StartsAt source s0) where
  abbrev src : Program
  src = program_of true source.blocks resolve

  abbrev m0 : Machine
  m0 = machine_start image s0

  agrees_reads : (m : Machine) (s : State) → AreAmong parts s → MachineAgrees src image gives m0 m s → read_at lists m.counter ≤ known_in parts s
  agrees_reads m s among agrees =
      let known : VarId → Bool = λ v. is_some (assigned v s.core.marks) in
      let a : ℕ = m.counter in
      let tells : (v : VarId) (p : Place) → gives v a p → Passes known parts v = λ v p g.
      (let t = agrees.places v p g in (
        assigned_among parts v (part_value v (place_content p m)) s.core.marks t among,
        some_value (assigned v s.core.marks)
            (part_value v (place_content p m)) t,
      )) in
      let apart = all_apart variables lists a given.apart given.places in
      let pass = all_known gives parts a known tells variables lists (λ k v ranges l at here e. given.each k v ranges a l at here e) in
      let few = fits known (told_all variables lists a) parts apart pass in
      omega (arith, few, all_count variables lists a given.for_all)

  line_reads : (m : Machine) (s s' : State) (since : Since) (l : CodeLine) → MachineAlong src image m0 s0 m s since → line_at image.lines m.counter ≡ Some l →
      AlignsWith src l since s s' → AreAmong parts s' → read_at lists m.counter ≤ known_in parts s'
  line_reads m s s' since l along stands aligned among =
      let p = position_of l.origin in
      elim (headline.agrees s0 start m s since l along stands) as (λ _. read_at lists m.counter ≤ known_in parts s') [
        | inl h ↦ (
            let same : h.0 ≡ s' = aligns_once src (First p) p refl since s h.0 s' h.1 aligned in
            subst (λ (t : State). read_at lists m.counter ≤ known_in parts t) same (agrees_reads m h.0 (subst (AreAmong parts) (sym same) among) h.2))
        | inr f ↦ absurd (aligns_not_fails src (First p) p refl since s s' aligned f)
      ]

  record Comes (n : Counts) (m : Machine) (s : State) (since : Since) : Type 0 where
    along : MachineAlong src image m0 s0 m s since
    fewer : n.reads ≤ n.known
    among : AreAmong parts s

  comes : {n : Counts} {m : Machine} {s : State} {since : Since} → Counted src image lists parts m0 s0 n m s since → Comes n m s since
  comes counts.at_start = record { along = at_start; fewer = omega arith; among = none_marked parts s0 start.marks }
  comes (counts.after_step {n = n} {m = m} {m' = m'} {s = s} {s' = s'} {since = since} l before stands aligned steps) =
      let b = comes before in
      let among = aligns_among source.blocks resolve parts given.marked (position_of l.origin) since s s' aligned b.among in
      let more = line_reads m s s' since l b.along stands aligned among in
      record { along = after_step l b.along stands aligned steps; fewer = omega (arith, b.fewer, more); among = among }

  counted_known : (limit : ℕ) (n : Counts) → AreCounts src image lists parts limit m0 s0 n → n.reads ≤ n.known
  counted_known limit n (makes_steps run all) = (comes run).fewer
  counted_known limit n (returns {n = k} {m = m} {s = s} {since = since} s' l result run below stands aligned ends) =
      let b = comes run in
      let among = aligns_among source.blocks resolve parts given.marked (position_of l.origin) since s s' aligned b.among in
      let more = line_reads m s s' since l b.along stands aligned among in
      omega (arith, b.fewer, more)

pub reads_are_known : (gives : VarId → (address : ℕ) → Place → Type 0) → ReadsAreKnown gives
reads_are_known gives source resolve image c lists variables parts limit n headline shows given counted =
    let s0 = start_state source in
    let begins = begins_source source in
    counted_known gives source resolve image lists variables parts headline given s0 (starts_at source s0 begins) limit n
    (counted image (machine_start image s0) s0 shows (begins_run source s0 c image begins shows) begins)
