use Rattle.std.proofs.Common.{sym, ◌∙◌}
use Rattle.value_queries.proofs.sits.class_sits.Goals as goal

pub returns-clause-sits : goal.returns-clause-sits
returns-clause-sits c =
    let by = c.are_one.ensures in (
      λ t. let h = by.0 t in record { reached = h.0; some = h.1; one = h.2 ∙ c.named_class.ensures.class },
      λ s. by.1 (s.reached, s.some, s.one ∙ sym c.named_class.ensures.class),
    )
