use Rattle.std.proofs.Common.{◌≡◌, ◌++◌}
use Rattle.std.specs.Prelude.{codes}
use Rattle.gen_text.specs.GeneratedText.{head_text}
use Rattle.gen_text.proofs.Joined.{four, on_ok}
use Rattle.gen_text.proofs.print.push_head.Goals as goal

pub returns : goal.returns
unfolding head_text
returns c =
    on_ok c.push_str-4.result
    (c.push_str-4.new.text ≡ c.push_str-3.new.text ++ codes "  !2 = distinct !DISubprogram(name: \"gen\", file: !1, line: 1)\n")
    (c.push_str-4.new.text ≡ c.args.text.now ++ head_text) c.push_str-4.ensures.ok
    (λ last. four c.args.text.now c.push_str.new.text c.push_str-2.new.text c.push_str-3.new.text c.push_str-4.new.text (codes "--- |\n")
    (codes "  define void @gen() !dbg !2 { ret void }\n") (codes "  !1 = !DIFile(filename: \"gen.c\", directory: \"/gen\")\n")
    (codes "  !2 = distinct !DISubprogram(name: \"gen\", file: !1, line: 1)\n") c.in_ok-push_str.ensures.ok c.in_ok-push_str-2.ensures.ok
    c.in_ok-push_str-3.ensures.ok last)
