use Rattle.std.proofs.Common.{◌≡◌, ◌≤◌, ◌||◌, ◌&&◌, ◌∙◌, ℕ, List, length, Option, Bool, nat_eq, sym, ap, subst}
use Rattle.std.proofs.lemmas.Bool.{eq-eqb, ne_eqb}
use Rattle.rv64_instr.specs.declared.place.Place.{Place}
use Rattle.pass_liveness.specs.Sets.{has}
use Rattle.pass_liveness.proofs.Places.{has_united}
use Rattle.scan_choice.specs.Given.{given_by}
use Rattle.scan_stale.specs.Flow.{is_unset}
use Rattle.scan_stale.proofs.Taken.{or_turned}
use Rattle.scan_stale.proofs.walk.start_of.Goals as goal

pub unset_at_start-requires : goal.unset_at_start-requires
unset_at_start-requires c = subst (λ (table : List (Option ℕ)). length table ≤ 4096) (sym c.as_slice.ensures) c.requires

pub returns-then-block-eq0 : goal.returns-then-block-eq0
returns-then-block-eq0 c x =
    has_united c.args.names.now.slots c.args.found.now c.unset_at_start.result c.united.result c.united.ensures x ∙
    ap (λ (z : Bool). has c.args.names.now.slots c.args.found.now x || z)
    (c.unset_at_start.ensures x ∙ ap (λ (table : List (Option ℕ)). is_unset (given_by table) x) c.as_slice.ensures) ∙
    or_turned (has c.args.names.now.slots c.args.found.now x) (is_unset (given_by c.args.given.now) x) ∙
    sym (ap (λ (z : Bool). (z && is_unset (given_by c.args.given.now) x) || has c.args.names.now.slots c.args.found.now x)
    (eq-eqb c.args.block 0 c.if-block-eq0.true))

pub returns-else-block-eq0 : goal.returns-else-block-eq0
returns-else-block-eq0 c x =
    ap (λ words. has c.args.names.now.slots words x) c.copy.ensures ∙
    sym (ap (λ (z : Bool). (z && is_unset (given_by c.args.given.now) x) || has c.args.names.now.slots c.args.found.now x)
    (ne_eqb c.args.block 0 c.if-block-eq0.false))
