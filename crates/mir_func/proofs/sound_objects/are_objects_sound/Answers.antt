use Rattle.std.proofs.Common.{◌↔◌, ◌∙◌, List, ℕ, IsTrue, map, subst}
use Rattle.std.specs.Prelude.{All}
use Rattle.mir_func.specs.declared.object.Object.{Object}
use Rattle.mir_func.specs.Sound.{AreApart, IsSoundObject}
use Rattle.mir_func.proofs.sound_objects.are_objects_sound.Goals as goal

pub are_laid-requires-clause-each : goal.are_laid-requires-clause-each
are_laid-requires-clause-each c = c.are_each_sound.ensures.0 c.if-not-are_each_sound.false

pub returns : goal.returns
returns c =
    let apart : IsTrue c.are_apart.result ↔ AreApart (map (λ (o : Object). o.id) c.args.objects.now) =
    subst (λ (ns : List ℕ). IsTrue c.are_apart.result ↔ AreApart ns) (c.in_ok-ids.ensures ∙ c.in_ok-object_numbers.ensures) c.are_apart.ensures in
    let each : All IsSoundObject c.args.objects.now = c.are_each_sound.ensures.0 c.if-not-are_each_sound.false in
    (λ t. record { apart = apart.0 c.if-not-are_apart.false; each = each; laid = c.are_laid.ensures.0 t }, λ s. c.are_laid.ensures.1 s.laid)
