-- `import_log` meets its contract, and shows what `send` asks: no word was given, and the bytes written are the summary of the log that was read.
use Rattle.std.proofs.Common.{ap, ◌∙◌}
use Rattle.text.proofs.LawsPutting.{put-stands}
use Rattle.importing.specs.Logs.{imported}
use Rattle.import.specs.Counting.{summary_of}
use Rattle.import.proofs.LawsRead.{OfLog}
use Rattle.import.proofs.LawsSummary.{summary-counts}
use Rattle.import.proofs.import_log.Goals as goal
use Rattle.import.proofs.import_log.Goals.{in-Ok, in-Err-Bad}

pub send-requires : goal.send-requires
send-requires c =
    let put = c.put_summary-end.ensures in
    let read : OfLog c.match-read_log.counts =
    elim c.match-read_log.branch [
      | in-Ok w ↦ rw w.counts-is w.in-Ok.ensures
      | in-Err-Bad w ↦ rw w.counts-is (rw w.in-Err-Bad.field-0-is at w.in-Err-Bad.ensures)
    ] in
    (c.requires, (read.0, put-stands put.upper_bound put.puts ∙ ap summary_of read.1 ∙ summary-counts (imported read.0)))
