use Rattle.std.proofs.Common.{None, Some, arith}
use Rattle.std.proofs.lemmas.Str.Pattern.{split_parts}
use Rattle.pass_list.proofs.Texts.{by_one, by_none, by_more}
use Rattle.pass_list.proofs.text.+with_names.Goals as goal

pub returns-in-None : goal.returns-in-None
returns-in-None t c =
    by_one c.args.list.now c.args.text.now c.with_name.result (split_parts 44 c.args.text.now None c.in-None.ensures.cases (omega arith))
    c.with_name.ensures

pub returns-in-None-with_name : goal.returns-in-None-with_name
returns-in-None-with_name t c =
    let parts = split_parts 44 c.args.text.now (Some (c.in-Some.name, c.in-Some.rest)) c.in-Some.ensures.cases (omega arith) in
    by_none c.args.list.now c.args.text.now c.in-Some.name.now c.in-Some.rest.now parts.0 parts.1 c.in-None-with_name.ensures

pub returns-in-Some-with_name : goal.returns-in-Some-with_name
returns-in-Some-with_name t c =
    let parts = split_parts 44 c.args.text.now (Some (c.in-Some.name, c.in-Some.rest)) c.in-Some.ensures.cases (omega arith) in
    by_more c.args.list.now c.args.text.now c.in-Some.name.now c.in-Some.rest.now parts.0 parts.1 c.in-Some-with_name.longer c.with_names.result
    ((c.with_name-in-Some.ensures c.in-Some-with_name.longer).0 c.in-Some-with_name.is) c.with_names.ensures
