-- A source that was read follows itself, so it is as passes make it of itself.
use Rattle.std.proofs.Common.{refl}
use Rattle.mir_func.specs.Resolve.{resolve}
use Rattle.sem_mir.proofs.Reading.{follows_itself}
use Rattle.compile_theorem.specs.Laws.{SourcesFollowThemselves}
use Rattle.compile_theorem.proofs.Variables.{own_marks}

pub sources_follow_themselves : SourcesFollowThemselves
sources_follow_themselves source is = record {
  follower = record {
    read = is.read;
    source_form = is.form;
    form = is.form;
    sound = is.sound;
    objects = refl;
    follows = follows_itself source.function.blocks is.read (resolve source.substitutions) source.function.objects;
  };
  name = refl;
  physical = is.physical;
  marks = own_marks source.function.blocks;
}
