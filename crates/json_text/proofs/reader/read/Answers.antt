use Rattle.json_text.proofs.Characters.{characters}
use Rattle.json_text.proofs.ReaderLemmas.{gives_tree, gives_fault, gives_spelled, gives_faulty}
use Rattle.json_text.proofs.reader.read.Goals as goal

pub returns-clause-found : goal.returns-clause-found
returns-clause-found c = gives_tree characters c.args.bytes.now c.read_all.result c.read_all.ensures

pub returns-clause-fault : goal.returns-clause-fault
returns-clause-fault c = gives_fault characters c.args.bytes.now c.read_all.result c.read_all.ensures

pub returns-clause-spelled : goal.returns-clause-spelled
returns-clause-spelled c = λ tree text. gives_spelled characters c.args.bytes.now c.read_all.result tree c.read_all.ensures text

pub returns-clause-faulty : goal.returns-clause-faulty
returns-clause-faulty c = λ fault first. gives_faulty characters c.args.bytes.now c.read_all.result fault c.read_all.ensures first
