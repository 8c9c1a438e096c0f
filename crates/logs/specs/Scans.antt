-- What a scan of a text answers: the parts of a line at its front, by their places.
use Rattle.std.specs.Prelude.{List, ℕ, ◌^◌, leb, Option, Some, None, Ok, Err}
use Rattle.identifiers.specs.Choice.{pick}
use Rattle.identifiers.specs.Refusals.{refusal}
use Rattle.logs.specs.Outcomes.{LineRead}
use Rattle.logs.specs.Lines.{dot_at, is_three, mark_at, end_at, timed, named, begins, line_stamp, line_number, said}
use Rattle.logs.specs.declared.answer.DataBytes.{DataBytes}
use Rattle.logs.specs.declared.scan.Time.{Time}
use Rattle.logs.specs.declared.scan.Name.{Name}
use Rattle.logs.specs.declared.scan.Scanned.{Scanned}

-- the time where it stands there: where the dot is, and what it says
unfoldable pub time_said : List ℕ → Option Time
time_said l = pick (timed l) (Some (record { dot = dot_at l; stamp = line_stamp l })) None

-- the identifier where it stands there behind its interface: where the mark is, and what eight digits say
unfoldable pub name_said : List ℕ → Option Name
name_said l = pick (named l) (Some (record { mark = mark_at l; number = pick (is_three l) None (Some (line_number l)) })) None

-- what an identifier, a stamp and bytes are read as: "three-digit identifiers .. passed over", "then 2", or the frame
abbrev pub name_reads : Option ℕ → ℕ → DataBytes → LineRead
name_reads None stamp bytes = Ok None
name_reads (Some number) stamp bytes = pick (leb (2 ^ 29) number) (Err (refusal 2)) (Ok (Some (record { identifier = number; stamp = stamp; «data» = bytes })))

-- the parts of a line and what they say; none where the text begins with none
unfoldable pub scanned : List ℕ → Option Scanned
scanned l = pick (begins l) (Some (record { end = end_at l; line = said l })) None
