use Rattle.std.proofs.Common.{◌≡◌, ◌++◌, ◌∷◌, []}
use Rattle.std.specs.Fmt.{decimal}
use Rattle.std.specs.Prelude.{codes}
use Rattle.gen_text.specs.GeneratedText.{variable_line}
use Rattle.gen_text.proofs.Joined.{four, on_ok}
use Rattle.gen_text.proofs.print.push_variable.Goals as goal

pub returns : goal.returns
unfolding variable_line
returns c =
    on_ok c.push_str-2.result (c.push_str-2.new.text ≡ c.push.new.self ++ codes "\", scope: !2, file: !1, line: 1)\n")
    (c.push_str-2.new.text ≡ c.args.text.now ++ variable_line c.args.node c.args.letter) c.push_str-2.ensures.ok
    (λ last. four c.args.text.now c.push_numbered.new.text c.push_str.new.text c.push.new.self c.push_str-2.new.text (codes "  !" ++ decimal c.args.node)
    (codes " = !DILocalVariable(name: \"") (c.args.letter ∷ []) (codes "\", scope: !2, file: !1, line: 1)\n") c.in_ok-push_numbered.ensures.ok
    c.in_ok-push_str.ensures.ok c.in_ok-push.ensures.ok last)
