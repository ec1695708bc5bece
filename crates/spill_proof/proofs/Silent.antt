-- What follows a source follows it with phis of fresh numbers, where scratch registers tell nothing.
use Rattle.std.proofs.Common.{◌≡◌, inr, ℕ, ◌<◌, ◌≤◌, List, Option, Some, None, true, false, refl, sym, ap, ◌∙◌, arith}
use Rattle.rv64_instr.specs.Instruction.{Instruction}
use Rattle.mir_func.specs.declared.debug_substitution.DebugSubstitution.{DebugSubstitution}
use Rattle.mir_func.specs.declared.debug_substitution.OperandPair.{OperandPair}
use Rattle.mir_func.specs.declared.item.Item.{Item}
use Rattle.mir_func.specs.declared.item.ItemKind.{ItemKind}
use Rattle.mir_func.specs.declared.item.ItemKind.TheVariants.{Code, Mark, Phi}
use Rattle.mir_func.specs.declared.variable.MarkValue.TheVariants.{Nothing, Constant, At, Pair}
use Rattle.mir_func.specs.Function.{Function}
use Rattle.mir_func.specs.Graph.{Program, program_of}
use Rattle.mir_func.specs.Resolve.{resolve}
use Rattle.mir_func.specs.Sound.{AllItems, IsSound}
use Rattle.sem_mir.specs.State.{Core}
use Rattle.sem_mir.specs.Step.{do_item, pair_value}
use Rattle.sem_mir.specs.Effects.{EndAlike, FallsInto}
use Rattle.sem_mir.specs.Follow.{OnRow, Counts, MarkFits}
use Rattle.sem_mir.proofs.Outcomes.{alike_weaker}
use Rattle.pass_trait.specs.sem_simulation.MatchStates.{OutcomesAlike}
use Rattle.pass_trait.proofs.sem_simulation.Outcomes.{alike_of}
use Rattle.pass_trait.specs.Change.{change}
use Rattle.pass_trait.specs.Simulation.{PreservesSimulation}
use Rattle.pass_salvage.specs.sem_agreement.Agreement.{Alike, DebugLessDef, HeldAfter, GenDefs, NumbersHeld, Depends}
use Rattle.pass_salvage.proofs.sem_agreement.Held.{held_fewer, held_itself}
use Rattle.pass_salvage.proofs.sem_agreement.Told.{tells_itself}
use Rattle.pass_salvage.proofs.sem_agreement.Items.{item_both, mark_both, phi_both, phi_second}
use Rattle.pass_salvage.proofs.sem_agreement.Views.{shows_alike}
use Rattle.pass_salvage.proofs.NumberOff.{Everywhere}
use Rattle.pass_salvage.proofs.EditRuns.{Keeps}
use Rattle.pass_salvage.proofs.EditFollows.{Allows, follows_edited}
use Rattle.spill_code.specs.declared.spilling.Spilling.{Spilling}
use Rattle.spill_proof.proofs.Low.{Low, LowEntries, resolve_low}
use Rattle.spill_proof.proofs.Put.{with_phis, IsPut, same, silent_mark, silent_phi, IsPhi, puts, put_edits, blocks_edited}

module _ (least : ℕ) where
  -- numbers from the least fresh one on are free
  abbrev IsFree : ℕ → Type 0
  IsFree n = least ≤ n

  abbrev MatchCores : Core → Core → Type 0
  MatchCores c d = Alike Everywhere IsFree c d

  module _ (f g : Program) (blind_f : f.sees_pointer ≡ false) (blind_g : g.sees_pointer ≡ false) (resolves : (q : OperandPair) → g.resolve q ≡ f.resolve q)
      (low : (q r : OperandPair) → q.number < least → f.resolve q ≡ Some r → r.number < least) where
    all_numbers : (i : Instruction) (m : Option ℕ) → NumbersHeld Everywhere i m
    all_numbers i None = tt
    all_numbers i (Some m) = λ p r e. inr tt

    not_free : (n : ℕ) → n < least → IsFree n → ⊥
    not_free n lt le = omega (arith, lt, le)

    pair_same : (q : OperandPair) (c d : Core) → q.number < least → DebugLessDef IsFree c d → (v : ℕ) → pair_value (g.resolve q) d ≡ Some v →
        pair_value (f.resolve q) c ≡ Some v
    pair_same q c d lt t v e = by_pair (f.resolve q) refl (ap (λ (x : Option OperandPair). pair_value x d) (sym (resolves q)) ∙ e) where
      by_pair : (x : Option OperandPair) → f.resolve q ≡ x → pair_value x d ≡ Some v → pair_value x c ≡ Some v
      by_pair None is e = cc
      by_pair (Some r) is e = t.pairs r.number r.operand (not_free r.number (low q r lt is)) v e

    depends : (kind : ItemKind) (c d : Core) → Low least kind → MatchCores c d → Depends f g Everywhere kind c d
    depends (Code i m) c d lt h = (λ x u. tt, all_numbers i m)
    depends (Mark v Nothing) c d lt h = tt
    depends (Mark v (Constant z)) c d lt h = tt
    depends (Mark v (At r)) c d lt h = tt
    depends (Mark v (Pair q)) c d lt h = pair_same q c d lt h.told
    depends (Phi None m) c d lt h = tt
    depends (Phi (Some x) m) c d lt h = tt

    all_after : (kind : ItemKind) (c d : Core) → Alike (HeldAfter Everywhere kind) IsFree c d → MatchCores c d
    all_after (Code i m) c d h = record { held = held_fewer (GenDefs Everywhere i) Everywhere (λ x u. inr tt) c d h.held; told = h.told }
    all_after (Mark v m) c d h = h
    all_after (Phi p m) c d h = h

    item_same : (kind : ItemKind) (c d : Core) → Low least kind → MatchCores c d → EndAlike MatchCores (do_item f kind c) (do_item g kind d)
    item_same kind c d lt h =
        alike_weaker (Alike (HeldAfter Everywhere kind) IsFree) MatchCores (all_after kind) (do_item f kind c) (do_item g kind d)
        (item_both Everywhere IsFree f g kind c d (blind_f ∙ sym blind_g) h (depends kind c d lt h))

    item_put : (x y : Item) → IsPut least x y → (c d : Core) → MatchCores c d → EndAlike MatchCores (do_item f x.kind c) (do_item g y.kind d)
    item_put x y (same lt) c d h = item_same x.kind c d lt h
    item_put x y (silent_mark {v} {r}) c d h = mark_both Everywhere IsFree f g v (At r) Nothing c d h (λ w e. cc)
    item_put x y (silent_phi {p} {n}) c d h = phi_both Everywhere IsFree f g (Some p) None n c d h (λ far w e. cc)

    code_put : (x y : Item) → IsPut least x y → (c d : Core) → MatchCores c d →
        OutcomesAlike MatchCores (λ t. MatchCores) (do_item f x.kind c) (do_item g y.kind d)
    code_put x y how c d h = alike_of MatchCores (λ t. MatchCores) MatchCores (do_item f x.kind c) (do_item g y.kind d) (λ e e' r. r) (λ t e e' go r. r)
        (item_put x y how c d h)

    phi_put : (y : Item) → IsPhi least y → (c d : Core) → MatchCores c d → FallsInto (λ e. MatchCores c e) (do_item g y.kind d)
    phi_put y (puts {p} {k} o le) c d h = phi_second Everywhere IsFree g p k c d le h

    put_keeps : Keeps (put_edits least) (λ k. MatchCores) f g
    put_keeps = record {
      code = λ k k' x y how code code' c d h. code_put x y how c d h;
      debug = λ k k' x y how none none' c d h. item_put x y how c d h;
      out_code = λ k k' x h. absurd h;
      out_stays = λ k k' x h. absurd h;
      outs = λ k k' x h. absurd h;
      puts = λ k k' y how c d h. phi_put y how c d h;
      ends = λ k t c d done h. h;
      shows = λ k c d h. shows_alike Everywhere IsFree c d h;
    }

  put_marks : (y : Item) → IsPhi least y → MarkFits y.kind y.origin
  put_marks y (puts o le) = tt

  put_allows : Allows (put_edits least)
  put_allows = record {
    empty = λ m. tt;
    falls = λ a b x h. absurd h;
    no_goes = λ a b x h. absurd h;
    no_end = λ a b x h. absurd h;
    kept = λ a b x h. absurd h;
    marks = λ a b y h no_code. put_marks y h;
  }

  put_counts : (x y : Item) → IsPut least x y → OnRow Counts x.kind → OnRow Counts y.kind
  put_counts x y (same lt) h = h
  put_counts x y silent_mark h = absurd h
  put_counts x y silent_phi h = absurd h

  pub phis_follow : (s : Spilling) (f : Function) (subs : List DebugSubstitution) → IsSound f → IsSound (with_phis s least f) →
      AllItems (λ i. Low least i.kind) f.blocks →
      LowEntries least subs → PreservesSimulation false true (change f subs (with_phis s least f) subs)
  phis_follow s f subs sound sound' low entries =
      let fp : Program = program_of false f.blocks (resolve subs) in
      let gp : Program = program_of false (with_phis s least f).blocks (resolve subs) in
      follows_edited (put_edits least) (λ k. MatchCores) put_allows f (with_phis s least f) sound sound' subs subs refl
      (blocks_edited s least least (omega arith) f.blocks low) (put_keeps fp gp refl refl (λ q. refl) (resolve_low least subs entries))
      (λ m c none. record { held = held_itself Everywhere c; told = tells_itself IsFree c }) (λ a b x h. absurd h) (λ a b x y how h. put_counts x y how h)
