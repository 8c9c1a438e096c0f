-- `put_positive` meets its contract: case by case.
use native.Mathlib.Omega.{arith}
use lib.ListN.{length-set}
use Rattle.identifiers.proofs.LawsBytes.{puts-byte, ◌▸◌}
use Rattle.server.specs.Server.{negative_of, positive_of}
use Rattle.server.proofs.LawsServer.{fits-22}
use Rattle.server.proofs.sound.Sound.put_positive.Goals as goal

pub put_answers-requires : goal.put_answers-requires
unfolding negative_of
put_answers-requires c = simp length-set (omega (arith, fits-22 _ _ (rw c.in-ReadData.is at c.requires)))

pub returns-in-ClearGroup : goal.returns-in-ClearGroup
unfolding positive_of
returns-in-ClearGroup c = rw c.in-ClearGroup.is (puts-byte _ 0 0x54)

pub returns-in-CountByMask : goal.returns-in-CountByMask
unfolding positive_of
returns-in-CountByMask c = rw c.in-CountByMask.is c.put_count.ensures

pub returns-in-ListByMask : goal.returns-in-ListByMask
unfolding positive_of
returns-in-ListByMask c = rw c.in-ListByMask.is c.put_list.ensures

pub returns-in-ListAll : goal.returns-in-ListAll
unfolding positive_of
returns-in-ListAll c = rw c.in-ListAll.is c.put_list-in-ListAll.ensures

pub returns-in-ReadData : goal.returns-in-ReadData
unfolding positive_of
returns-in-ReadData c = rw c.in-ReadData.is (puts-byte _ 0 0x62 ▸ c.put_answers.ensures)

pub returns-in-TesterPresent : goal.returns-in-TesterPresent
unfolding positive_of
returns-in-TesterPresent c = rw c.in-TesterPresent.is (puts-byte _ 0 0x7E ▸ puts-byte _ 1 0x00)
