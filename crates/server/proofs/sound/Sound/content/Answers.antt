-- `content` meets its contract: case by case.
use mathlib.Core.Path.{◌≡◌, sym, ◌∙◌}
use mathlib.Core.Bool.{Bool}
use Prim.Native.Nat.{ℕ, ◌+◌, ◌*◌}
use native.Mathlib.Omega.{arith}
use lib.Dec.{ltb}
use Rattle.identifiers.specs.Choice.{pick}
use Rattle.server.specs.Faults.{count_listed}
use Rattle.server.specs.Server.{content_of_19, negative_of}
use Rattle.server.specs.declared.trailer.TrailerRecord.{TrailerRecord}
use Rattle.server.proofs.LawsTrailer.{sound-has}
use Rattle.server.proofs.LawsFaults.{counted, every-listed, length-report}
use Rattle.server.proofs.sound.Sound.content.Goals as goal

-- the code of a report is that of its length
by_length : (t : TrailerRecord) (all : Bool) (mask : ℕ) {n r : ℕ} → n ≡ count_listed t all mask → r ≡ pick (ltb 255 (3 + 4 * n)) 0x14 0 → r ≡ content_of_19 t all mask
unfolding content_of_19
by_length t all mask e h = rw (e, sym (length-report t all mask)) at h

pub count_listed-requires : goal.count_listed-requires
count_listed-requires c = omega (arith, (sound-has _ c.args.self.now.sound).count, c.statuses.ensures.1)

pub returns-in-ClearGroup : goal.returns-in-ClearGroup
unfolding negative_of
returns-in-ClearGroup c = rw c.in-ClearGroup.is c.content_of_14.ensures

pub returns-in-ListByMask : goal.returns-in-ListByMask
unfolding negative_of
returns-in-ListByMask c = rw c.in-ListByMask.is (by_length _ _ _ (counted _ _ _ c.statuses.ensures c.count_listed.ensures) c.content_of_19.ensures)

pub returns-in-ListAll : goal.returns-in-ListAll
unfolding negative_of
returns-in-ListAll c = rw c.in-ListAll.is (by_length _ _ _ (c.statuses-in-ListAll.ensures.1 ∙ sym (every-listed c.args.self.now.record.now 0)) c.content_of_19-in-ListAll.ensures)

pub returns-in-ReadData : goal.returns-in-ReadData
unfolding negative_of
returns-in-ReadData c = rw c.in-ReadData.is c.content_of_22.ensures

pub returns-in-CountByMask : goal.returns-in-CountByMask
unfolding negative_of
returns-in-CountByMask c = rw c.in-CountByMask.is

pub returns-in-TesterPresent : goal.returns-in-TesterPresent
unfolding negative_of
returns-in-TesterPresent c = rw c.in-TesterPresent.is
