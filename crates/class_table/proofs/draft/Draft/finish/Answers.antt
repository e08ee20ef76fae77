use Rattle.std.proofs.Common.{◌+◌, Bool, cond, ap, ◌∙◌, Ok}
use Rattle.class_table.specs.Content.{table_of}
use Rattle.class_table.specs.Reading.{whole, whole_at, breaks}
use Rattle.class_table.specs.Gives.{content_of}
use Rattle.class_table.specs.declared.fault.Why.TheVariants.{End}
use Rattle.class_table.proofs.draft.Draft.finish.Goals as goal

pub finish_body-requires : goal.finish_body-requires
unfolding whole
finish_body-requires c = λ complete. c.requires.kept (table_of (content_of c.args.self))
    (ap (λ due. whole_at due (content_of c.args.self) c.args.last) c.in-Body.is ∙ ap (λ (b : Bool). cond b (Ok (table_of (content_of c.args.self))) (breaks (c.args.last + 1) End)) complete)
