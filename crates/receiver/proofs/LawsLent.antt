-- A frame and an address offered to a lent node: one law an outcome, and what a call then answers and leaves.
use Rattle.receiver.proofs.LawsGiven.{gives-as, refused-gives}
use Rattle.std.specs.Prelude.{Ok, Some, None}
use Rattle.std.proofs.Common.{◌≡◌, ℕ, Bool, true, false, List, length, sym, refl, ap, ◌∙◌, Result, Err, Ok}
use Rattle.identifiers.specs.Choice.{pick}
use Rattle.identifiers.specs.Refusals.{refusal}
use Rattle.identifiers.specs.declared.refusal.Refusal.{Refusal}
use Rattle.identifiers.proofs.LawsChoice.{pick_true, so}
use Rattle.readings.specs.Positions.{trailer_at}
use Rattle.readings.specs.declared.position.Position.{Position}
use Rattle.receiver.specs.declared.frame.Judged.{Judged}
use Rattle.receiver.specs.declared.outcome.Outcome.{Outcome}
use Rattle.receiver.specs.declared.reception.Reception.{Reception}
use Rattle.receiver.specs.Nodes.{Node, Changed, reception_at, with_reception, sound_node, unchanged, done, taken_by}
use Rattle.receiver.specs.Frames.{judged_of}
use Rattle.receiver.specs.Steps.{Step, judged_place, step_of, Gives}
use Rattle.receiver.specs.Receiving.{Received, own_of, received_of, buffer_after}
use Rattle.receiver.specs.Lent.{numbers_of, node_in, bytes_in, sound_lent, lent_received, lent_buffer, ReceivesAs, lent_taken, left_by, stored}
use Rattle.receiver.proofs.LawsNodes.{address-1, put_back}
use Rattle.receiver.proofs.LawsReceived.{received_is, buffer-is, received-1, buffer-1}
use Rattle.receiver.proofs.LawsRow.{numbers-back}
use Rattle.receiver.proofs.LawsBroken.{not_sound}
use Rattle.receiver.proofs.LawsLentRules.{lent-bytes, lent-sound}

-- ---- a frame
module _ (n : Node) (buffer : List ℕ) (identifier : ℕ) (bytes : List ℕ) (stamp : ℕ) where
  abbrev refused : Received
  refused = record { node = n; outcome = Err (refusal 1) }

  -- of bytes alone it is received as by every node
  module _ (h : bytes_in n ≡ true) where
    pub lent-received : lent_received n buffer identifier bytes stamp ≡ received_of n buffer identifier bytes stamp
    unfolding lent_received
    lent-received = pick_true _ _ h

    pub lent-buffer : lent_buffer n buffer identifier bytes stamp ≡ buffer_after n buffer identifier bytes stamp
    unfolding lent_buffer
    lent-buffer = pick_true _ _ h

  -- 1 leaves the node and the buffer
  abbrev Left : Bool → Type 0
  Left b = (pick b (received_of n buffer identifier bytes stamp) refused ≡ refused) × (pick b (buffer_after n buffer identifier bytes stamp) buffer ≡ buffer)

  left : (b : Bool) → (b ≡ true → own_of n (length buffer) ≡ None) → Left b
  unfolding pick
  left true h = (received-1 n buffer identifier bytes stamp (h refl), buffer-1 n buffer identifier bytes stamp (h refl))
  left false h = (refl, refl)

  module _ (none : bytes_in n ≡ true → own_of n (length buffer) ≡ None) where
    pub lent-1 : lent_received n buffer identifier bytes stamp ≡ record { node = n; outcome = Err (refusal 1) }
    unfolding lent_received
    lent-1 = (left (bytes_in n) none).0

    pub lent-kept : lent_buffer n buffer identifier bytes stamp ≡ buffer
    unfolding lent_buffer
    lent-kept = (left (bytes_in n) none).1

pub rules-broken : (n : Node) (buffer : List ℕ) → sound_lent n ≡ false → bytes_in n ≡ true → own_of n (length buffer) ≡ None
unfolding sound_lent
rules-broken n buffer h b = not_sound n buffer (so b refl ∙ h)

-- ---- what `receive` answers and leaves
module _ (numbers buffer : List ℕ) (identifier : ℕ) (bytes : List ℕ) (stamp : ℕ) where
  abbrev n : Node
  n = node_in numbers

  pub refused-so : length numbers ≡ 20 → (bytes_in n ≡ true → own_of n (length buffer) ≡ None)
      → ReceivesAs numbers buffer identifier bytes stamp (Err (refusal 1)) numbers buffer
  refused-so twenty none =
      let left = lent-1 n buffer identifier bytes stamp none in
      record {
        answers = sym (ap (λ (x : Received). x.outcome) left);
        leaves = sym (ap (λ (x : Received). numbers_of x.node) left ∙ numbers-back numbers twenty);
        fills = sym (lent-kept n buffer identifier bytes stamp none);
      }

  module _ (h : sound_lent n ≡ true) (full : length buffer ≡ 1536) (own : Position) (at : trailer_at n.own ≡ Some own) where
    abbrev frame : Result Judged Refusal
    frame = judged_of own n.unit identifier bytes

    abbrev step : Step
    step = step_of (reception_at n (judged_place frame)) frame (length bytes) stamp

    pub judged-so : {r : Reception} {o : Result Outcome Refusal} {after filled : List ℕ} → Gives buffer bytes step r o filled → after ≡ numbers_of (with_reception n (judged_place frame) r)
        → ReceivesAs numbers buffer identifier bytes stamp o after filled
    judged-so g a =
        let is = lent-received n buffer identifier bytes stamp (lent-bytes n h) ∙ received_is n buffer own n.unit (lent-sound n h) full at refl identifier bytes stamp in
        record {
          answers = sym g.outcome ∙ sym (ap (λ (x : Received). x.outcome) is);
          leaves = a ∙ ap (λ (x : Reception). numbers_of (with_reception n (judged_place frame) x)) (sym g.reception) ∙ sym (ap (λ (x : Received). numbers_of x.node) is);
          fills = sym g.leaves ∙ sym (lent-buffer n buffer identifier bytes stamp (lent-bytes n h) ∙ buffer-is n buffer own n.unit (lent-sound n h) full at refl identifier bytes stamp);
        }

    -- the same with what the code has: the judged frame, its place, that reception, and the buffer
    pub judged-as : {j : Judged} {p : ℕ} {r x : Reception} {held : List ℕ} {o : Result Outcome Refusal} {after filled : List ℕ} → frame ≡ Ok j → p ≡ judged_place (Ok j) → r ≡ reception_at n p
        → held ≡ buffer → Gives held bytes (step_of r (Ok j) (length bytes) stamp) x o filled → after ≡ numbers_of (with_reception n p x) → ReceivesAs numbers buffer identifier bytes stamp o after filled
    judged-as {x = x} {o = o} {filled = filled} f e i b g a = judged-so {r = x} {o = o} {filled = filled} (rw f (rw (b, i, e) at g)) (rw f (rw e at a))

    -- a frame that checks 2 to 10 refuse leaves all as found
    pub refused-judged : length numbers ≡ 20 → {why : Refusal} → frame ≡ Err why → ReceivesAs numbers buffer identifier bytes stamp (Err why) numbers buffer
    refused-judged twenty {why} e =
        let r = reception_at n (judged_place frame) in
        judged-so (gives-as buffer bytes (ap (λ (j : Result Judged Refusal). step_of r j (length bytes) stamp) e) (refused-gives buffer bytes r (length bytes) stamp why))
        (sym (ap numbers_of (put_back n (judged_place frame)) ∙ numbers-back numbers twenty))

-- ---- a node made or changed, or not
pub left_so : {c : Changed} (numbers : List ℕ) (n : Node) (why : Refusal) → c ≡ unchanged n why → (Err why ≡ c.answer) × (numbers ≡ stored numbers c)
unfolding stored left_by unchanged
left_so numbers n why e = rw e (refl, refl)

pub done-so : {c : Changed} (numbers : List ℕ) (n : Node) {after : List ℕ} → c ≡ done n → after ≡ numbers_of n → ((Ok tt) ≡ c.answer) × (after ≡ stored numbers c)
unfolding stored left_by done
done-so numbers n e f = rw e (refl, f)

-- ---- an address
module _ (n : Node) (source : ℕ) where
  taken-left : (b : Bool) → (b ≡ true → sound_node n ≡ false) → pick b (taken_by n source) (unchanged n (refusal 1)) ≡ unchanged n (refusal 1)
  unfolding pick
  taken-left true h = address-1 n source (h refl)
  taken-left false h = refl

  pub lent-address-1 : sound_lent n ≡ false → lent_taken n source ≡ unchanged n (refusal 1)
  unfolding lent_taken sound_lent
  lent-address-1 h = taken-left (bytes_in n) (λ b. so b refl ∙ h)

  pub lent-taken : sound_lent n ≡ true → lent_taken n source ≡ taken_by n source
  unfolding lent_taken
  lent-taken h = pick_true _ _ (lent-bytes n h)
