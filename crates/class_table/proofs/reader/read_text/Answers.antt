use Rattle.std.proofs.Common.{◌≡◌, length, arith}
use Rattle.agg_base.specs.Lines.{rows_from}
use Rattle.class_table.specs.Gives.{content_of}
use Rattle.class_table.proofs.ReaderLemmas.{rows_few, read_content}
use Rattle.class_table.proofs.reader.read_text.Goals as goal

pub finish-requires-clause-room : goal.finish-requires-clause-room
finish-requires-clause-room c =
    let few = rows_few c.args.bytes.now in
    let count : c.in_ok-draft.last ≡ length (rows_from 1 c.args.bytes.now) = c.in_ok-draft.ensures.last in
    let short = c.requires in
    omega arith

pub finish-requires-clause-kept : goal.finish-requires-clause-kept
finish-requires-clause-kept c = λ t end. read_content c.args.bytes.now (content_of c.in_ok-draft.draft) c.in_ok-draft.last t c.in_ok-draft.ensures.said c.in_ok-draft.ensures.last end
