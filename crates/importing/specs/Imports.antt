-- What an import has to be: each statement in a sentence of document 02, 2026-02, and as a type.
use Rattle.std.specs.Prelude.{◌≡◌, List, [], ◌∷◌, ◌++◌, ◌⊎◌, ◌↔◌, ℕ, ◌+◌, ◌^◌, ◌≤◌, ◌<◌, ltb, length, Ok, Err}
use Rattle.identifiers.specs.Refusals.{refusal}
use Rattle.identifiers.specs.declared.refusal.Refusal.{Refusal}
use Rattle.readings.specs.declared.position.Position.{Position}
use Rattle.receiver.specs.Frames.{Frame}
use Rattle.trains.specs.Sequences.{Line, start, ◌▹◌, size, Request, ReadAs}
use Rattle.trains.specs.Runs.{Held, requests}
use Rattle.trains.specs.Demands.{Fresh}
use Rattle.logs.specs.Grammar.{Each}
use Rattle.logs.specs.Lines.{line_read}
use Rattle.logs.specs.Written.{line_text}
use Rattle.text.specs.Digits.{newline}
use Rattle.importing.specs.Logs.{LogRead, begun, refused_at, took, imported}
use Rattle.importing.specs.Lines.{LinesOf, Accepted, frames_behind, frames_among, over_among}

-- ---- lines
-- Every log has lines, and one list of them.
abbrev pub SomeLines : Type 0
SomeLines = (log : List ℕ) → (ls : List (List ℕ)) × LinesOf log ls

abbrev pub OneCutting : Type 0
OneCutting = (log : List ℕ) (ls ks : List (List ℕ)) → LinesOf log ls → LinesOf log ks → ls ≡ ks

-- lines of which one is refused, and none before it
pub record FirstBad (ls : List (List ℕ)) (n : ℕ) (why : Refusal) : Type 0 where
  pub front : List (List ℕ)
  pub bad : List ℕ
  pub more : List (List ℕ)
  pub are : ls ≡ front ++ (bad ∷ more)
  pub before : Accepted front
  pub refuses : line_read bad ≡ Err why
  pub number : n ≡ length front + 1

-- Lines are all accepted, or there is a first bad one: never both.
abbrev pub OneOfBoth : Type 0
OneOfBoth = (ls : List (List ℕ)) → (Accepted ls ⊎ ((n : ℕ) × ((why : Refusal) × FirstBad ls n why))) × (Accepted ls → (n : ℕ) (why : Refusal) → FirstBad ls n why → ⊥)

-- ---- "Import turns each extended data frame .. into a stamped frame": the frames of the lines, in order, none lost and none added; every line counted once
abbrev pub FramesInOrder : Type 0
FramesInOrder = (log : List ℕ) (ls : List (List ℕ)) → LinesOf log ls → (a : Accepted ls)
    → imported log ≡ record { held = []; lines = length ls; frames = frames_among a; passed = over_among a; sequence = frames_behind start a; answer = Ok tt }

abbrev pub EveryLineCounted : Type 0
EveryLineCounted = (ls : List (List ℕ)) (a : Accepted ls) → (frames_among a + over_among a ≡ length ls) × (size (frames_behind start a) ≡ frames_among a)

-- "25 malformed line .. with its number; then 2": the first bad line decides, and no frame is handed over
abbrev pub FirstBadLine : Type 0
FirstBadLine = (log : List ℕ) (ls : List (List ℕ)) → LinesOf log ls → (n : ℕ) (why : Refusal) → FirstBad ls n why → imported log ≡ refused_at n why

-- ---- how the reads cut a log cannot matter
abbrev pub InPieces : Type 0
InPieces = (r : LogRead) (a b : List ℕ) → took r (a ++ b) ≡ took (took r a) b

-- and nothing behind a refused line, or behind more than 255 bytes of a line that has not ended, changes the answer
abbrev pub RefusedStays : Type 0
RefusedStays = (log more : List ℕ) (why : Refusal) → (took begun log).answer ≡ Err why → imported (log ++ more) ≡ imported log

abbrev pub LongStays : Type 0
LongStays = (log more : List ℕ) → (took begun log).answer ≡ Ok tt → 255 < length (took begun log).held
    → imported (log ++ more) ≡ refused_at ((took begun log).lines + 1) (refusal 25)

-- ---- "Export writes a line that imports to the same frame"
-- a frame that export takes: its identifier below 2^29, at most 8 bytes; bytes and stamp are those of a host
pub record Writable (f : Frame) : Type 0 where
  pub range : f.identifier < 2 ^ 29
  pub few : length f.bytes ≤ 8
  pub bytes : Each (λ (b : ℕ). ltb b 256) f.bytes
  pub small : f.stamp < 2 ^ 32

pub data AllWritable : Line → Type 0 where
  no_frame : AllWritable start
  one_more : {h : Line} {f : Frame} → AllWritable h → Writable f → AllWritable (h ▹ f)

-- the log of a sequence: a line a frame
unfoldable pub exported : Line → List ℕ
exported start = []
exported (h ▹ f) = exported h ++ (line_text f.identifier f.bytes f.stamp ++ newline)

-- what export wrote, import gives back, for a whole sequence
abbrev pub WrittenImports : Type 0
WrittenImports = (h : Line) → AllWritable h → imported (exported h) ≡ record { held = []; lines = size h; frames = size h; passed = 0; sequence = h; answer = Ok tt }

-- what was imported can be exported: no identifier too large and no ninth byte comes out of a log
abbrev pub ImportedWritable : Type 0
ImportedWritable = (log : List ℕ) → AllWritable (imported log).sequence

-- ---- "Demand 3 then reads the imported sequence": a fresh node that is offered the imported sequence hands out exactly its one reading
abbrev pub DemandThreeReads : Type 0
DemandThreeReads = (own : Position) (unit : ℕ) (x : Held) → Fresh own unit x → (log : List ℕ) (r : List Request)
    → ReadAs own unit (imported log).sequence r ↔ requests x (imported log).sequence ≡ r

-- and a sequence that was exported and imported gives the requests that it gave
abbrev pub SameRequests : Type 0
SameRequests = (x : Held) (h : Line) → AllWritable h → requests x (imported (exported h)).sequence ≡ requests x h
