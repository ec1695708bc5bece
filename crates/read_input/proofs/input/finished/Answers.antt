use Rattle.read_input.proofs.input.finished.Goals as goal

pub returns-in-Err-Refused : goal.returns-in-Err-Refused
returns-in-Err-Refused c = λ linked text reading.
    let said = c.in-Err-Refused.ensures linked text reading in rw c.in-Err-Refused.field-0-is at said
