use Rattle.command_files.proofs.lines.pieces_of.Goals as goal

pub returns-in-GeometryRefused : goal.returns-in-GeometryRefused
returns-in-GeometryRefused c = rw c.in-GeometryRefused.is (rw c.number-number.ensures at c.of_refusal.ensures)

pub returns-in-ImageRefused : goal.returns-in-ImageRefused
returns-in-ImageRefused c = rw c.in-ImageRefused.is (rw c.number-number-in-ImageRefused.ensures at c.of_refusal-in-ImageRefused.ensures)

pub returns-in-DataRefused : goal.returns-in-DataRefused
returns-in-DataRefused c = rw c.in-DataRefused.is (rw c.number-number-in-DataRefused.ensures at c.of_refusal-in-DataRefused.ensures)
