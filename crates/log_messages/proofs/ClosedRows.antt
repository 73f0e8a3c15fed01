-- Rows: a closed log of two publishers, and a reader that has read all of it. The first has published abc and bc, the second ab between
-- them. Term length 65536, MTU 1408, first term 7, session 1, stream 1001.
use Rattle.std.specs.Prelude.{◌≡◌, ◌<◌, ◌≤◌, ◌+◌, ◌==◌, cond, ℕ, zero, suc, false, List, [], ◌∷◌, ◌++◌, slice_index, None}
use Rattle.std.specs.List.{AllByRecursion}
use Rattle.std.proofs.Common.{arith, inl, inr, refl, subst}
use Rattle.std.proofs.lemmas.Bool.{cond-false, ne_eqb}
use Rattle.atomic_table.specs.Seated.{TableId}
use Rattle.theory.specs.Entry.{Entry}
use Rattle.theory.specs.Placed.{Among, Data}
use Rattle.theory.specs.Tiling.{share_of}
use Rattle.theory.proofs.Rows.{abc, identity}
use Rattle.theory.proofs.UnitRows.{legal}
use Rattle.position.specs.Words.{frame_words}
use Rattle.publication.specs.declared.pass.ClaimRange.{ClaimRange}
use Rattle.publication.specs.declared.pass.FrameWords.{FrameWords}
use Rattle.publication.specs.Frames.{frame_at}
use Rattle.publication.specs.Steps.{Extent, works}
use Rattle.shared_log.specs.Steps.Handles.{LogId, LogValue, PublisherValue}
use Rattle.log_rule.specs.Claims.Plays.{newcomer}
use Rattle.log_rule.specs.Claims.Sure.{no_controls}
use Rattle.log_rule.specs.Claims.Sums.{total}
use Rattle.log_rule.specs.Edges.{in_entry}
use Rattle.log_rule.specs.Table.{reader_alone}
use Rattle.shared_log.specs.Books.{IsCommittedBy, ShowsBook, committed_in, share_as}
use Rattle.shared_log.specs.Readers.{ReaderValue, known_of}
use Rattle.shared_log.specs.declared.book.Book.{Book}
use Rattle.log_messages.specs.Closed.{ClosedIsStream, ClosesAsStream, HasCommitted, HaveClaimed, Merges}
use Rattle.log_messages.specs.Law.{ReadsAll}
use Rattle.log_messages.specs.Reading.{HasRead, Reading, given_of}

abbrev ab : List ℕ
ab = 97 ∷ 98 ∷ []

abbrev bc : List ℕ
bc = 98 ∷ 99 ∷ []

-- ---- what they have claimed, and committed

-- a message in one frame, of this owner
abbrev one : ℕ → ℕ → List ℕ → ℕ → Entry
one start owner message cut = record { start = start; owner = owner; padding = false; cuts = cut ∷ []; frames = Data 192 message ∷ [] }

abbrev first_entries : List Entry
first_entries = one 0 0 abc 35 ∷ one 128 0 bc 34 ∷ []

abbrev second_entries : List Entry
second_entries = one 64 1 ab 34 ∷ []

abbrev claim : ℕ → ℕ → ℕ → ClaimRange
claim start owner cut = record { start = start; owner = owner; cuts = cut ∷ []; padding = false }

abbrev frame : ℕ → List ℕ → FrameWords
frame start message = frame_at identity start (Data 192 message)

abbrev table : TableId
table = record { words = 0; slots = 0; views_name = 0; atom = 0; block = 0; offset = 0; slot_names = [] }

abbrev place : LogId
place = record { table = table; region = record { life = 0; names = []; block = 0; first = 0 } }

abbrev log : LogValue
log = record { table = place; identity = identity; start = 0; consumers = 1 }

abbrev publisher : ℕ → ℕ → List ClaimRange → List FrameWords → PublisherValue
publisher number parts claims frames = record {
  of = place;
  seat = number;
  steps = 0;
  controls = no_controls;
  sure = 0;
  freed = 0;
  pass = record (newcomer identity 0 number parts) { right = record (newcomer identity 0 number parts).right { claims = claims }; work = works frames [] };
}

abbrev both : List PublisherValue
both = publisher 0 176 (claim 0 0 35 ∷ claim 128 0 34 ∷ []) (frame 0 abc ∷ frame 128 bc ∷ []) ∷ publisher 1 120 (claim 64 1 34 ∷ []) (frame 64 ab ∷ []) ∷ []

abbrev claimed : List (List (List Entry))
claimed = (first_entries ∷ []) ∷ (second_entries ∷ []) ∷ []

have : HaveClaimed both claimed
unfolding frame_words
have = (
  record {
    claims = refl;
    ordered = (((omega arith, tt), (tt, tt)), tt);
    entries = (record { owner = omega arith; cuts = (omega arith, tt); long = omega arith; frames = ((refl, refl), tt) }, (record { owner = omega arith; cuts = (omega arith, tt); long = omega arith; frames = ((refl, refl), tt) }, tt));
    frames = (inl refl, (inr (inl refl), tt));
  },
  (
    record {
      claims = refl;
      ordered = ((tt, tt), tt);
      entries = (record { owner = omega arith; cuts = (omega arith, tt); long = omega arith; frames = ((refl, refl), tt) }, tt);
      frames = (inl refl, tt);
    },
    tt,
  ),
)

-- as the clauses of its calls say it of the first
has_committed : HasCommitted identity (publisher 0 176 (claim 0 0 35 ∷ claim 128 0 34 ∷ []) (frame 0 abc ∷ frame 128 bc ∷ [])) (first_entries ∷ [])
has_committed = record {
  claims = refl;
  ordered = (((omega arith, tt), (tt, tt)), tt);
  entries = have.0.entries;
  told = (((omega arith, omega arith, (omega arith, (omega arith, (omega arith, tt)))), tt), (((omega arith, omega arith, (omega arith, (omega arith, tt))), tt), tt));
  frames = refl;
}

-- ---- the book

abbrev book : Book
book = record { start = 0; tail = 192; shares = 128 ∷ 64 ∷ 0 ∷ 0 ∷ 0 ∷ 0 ∷ 0 ∷ 0 ∷ [] }

-- the entries in the order of the stream, of which no frame is told
abbrev told : ℕ → ℕ → ℕ → Entry
told start owner cut = record { start = start; owner = owner; padding = false; cuts = cut ∷ []; frames = [] }

abbrev tiling : List Entry
tiling = told 0 0 35 ∷ told 64 1 34 ∷ told 128 0 34 ∷ []

few : (n : ℕ) → (cond (0 == n) 1 0 + 0) + ((cond (1 == n) 1 0 + 0) + 0) ≤ 1
few zero = omega arith
few (suc zero) = omega arith
few (suc (suc n)) =
    let a : cond {A = ℕ} (0 == suc (suc n)) 1 0 ≡ 0 = cond-false {A = ℕ} (0 == suc (suc n)) 1 0 (ne_eqb 0 (suc (suc n)) (λ e. omega (arith, e))) in
    let b : cond {A = ℕ} (1 == suc (suc n)) 1 0 ≡ 0 = cond-false {A = ℕ} (1 == suc (suc n)) 1 0 (ne_eqb 1 (suc (suc n)) (λ e. omega (arith, e))) in
    omega (arith, a, b)

each_committed : (h : Extent → ℕ) → total (in_entry h) tiling ≡ total (committed_in h) both
unfolding frame_words
each_committed h = omega arith

shows : ShowsBook log both book
shows = record {
  geometry = legal;
  start = refl;
  low = omega arith;
  shares = shares;
  whole = refl;
  entries = (
    (record { entry = record { owner = omega arith; cuts = (omega arith, tt); long = omega arith; frames = tt }; unit = refl }, (record { entry = record { owner = omega arith; cuts = (omega arith, tt); long = omega arith; frames = tt }; unit = refl }, tt)),
    ((record { entry = record { owner = omega arith; cuts = (omega arith, tt); long = omega arith; frames = tt }; unit = refl }, tt), tt),
  );
  tiled = record { log = tiling; tiles = (refl, omega arith, (refl, omega arith, (refl, omega arith, refl))); fair = λ h. omega arith };
  owned = owned;
  numbers = few;
  committed = each_committed;
}
  where
    shares : (n : ℕ) → n < 8 → slice_index book.shares n ≡ total (share_as n) both
    shares zero low = refl
    shares (suc zero) low = refl
    shares (suc (suc zero)) low = refl
    shares (suc (suc (suc zero))) low = refl
    shares (suc (suc (suc (suc zero)))) low = refl
    shares (suc (suc (suc (suc (suc zero))))) low = refl
    shares (suc (suc (suc (suc (suc (suc zero)))))) low = refl
    shares (suc (suc (suc (suc (suc (suc (suc zero))))))) low = refl
    shares (suc (suc (suc (suc (suc (suc (suc (suc n)))))))) low = absurd (omega arith)

    owned : (n : ℕ) → n < 8 → slice_index book.shares n ≡ share_of n tiling
    owned zero low = refl
    owned (suc zero) low = refl
    owned (suc (suc zero)) low = refl
    owned (suc (suc (suc zero))) low = refl
    owned (suc (suc (suc (suc zero)))) low = refl
    owned (suc (suc (suc (suc (suc zero))))) low = refl
    owned (suc (suc (suc (suc (suc (suc zero)))))) low = refl
    owned (suc (suc (suc (suc (suc (suc (suc zero))))))) low = refl
    owned (suc (suc (suc (suc (suc (suc (suc (suc n)))))))) low = absurd (omega arith)

-- ---- a reader that has read all of it

abbrev reader : ReaderValue
reader = record {
  held = record { of = place; seat = 9; pass = reader_alone identity 0 record { number = 0; position = 192; known = frame 0 abc ∷ frame 64 ab ∷ frame 128 bc ∷ []; misses = 0 }; steps = 0; controls = no_controls; sure = 0; freed = 0 };
  place = 0;
  number = 0;
  position = 192;
  read_to = 192;
}

abbrev reading : Reading
reading = record { reader = reader; assembler = record { greatest = 16; begun = None }; begun_at = 0; has_refused = false }

has_read : HasRead 0 reader reading.assembler false
unfolding frame_words
has_read = record { legal = legal; chain = (refl, (refl, (refl, refl))); whole = (refl, (refl, (refl, tt))); begun = λ none. refl }

are_committed : AllByRecursion (IsCommittedBy both) (known_of reader)
are_committed = (inl refl, (inr (inr (inl refl)), (inr (inl refl), tt)))

its_messages : given_of reading ≡ abc ∷ ab ∷ bc ∷ []
unfolding frame_words
its_messages = refl

-- ---- the laws, there

-- each frame of the log is among those that were read
all_read : ReadsAll → Among (frame 64 ab) (known_of reader)
unfolding frame_words
all_read law = law log both book reading shows has_read are_committed (frame 64 ab) 64 (inr (inr (inl refl))) (omega arith) (omega arith) (omega arith) (omega arith)

stream : ClosedIsStream → ClosesAsStream log both book (first_entries ∷ second_entries ∷ [])
stream law = law log both book claimed shows have

-- its messages are merged of the first's and of the second's
merged : ClosedIsStream → Merges ((abc ∷ bc ∷ []) ∷ (ab ∷ []) ∷ []) (given_of reading)
merged law = ((stream law).polled reading has_read are_committed).all refl refl

-- ---- what is merged, and what isn't

between : Merges ((abc ∷ bc ∷ []) ∷ (ab ∷ []) ∷ []) (abc ∷ ab ∷ bc ∷ [])
between = ([], bc ∷ [], (ab ∷ []) ∷ [], refl, ((bc ∷ []) ∷ [], [], [], refl, ([], [], [] ∷ [], refl, (refl, (refl, tt)))))

-- the first's messages have changed places
turned : Merges ((abc ∷ bc ∷ []) ∷ []) (bc ∷ abc ∷ []) → ⊥
turned m = no m.0 m.1 m.2 m.3
  where
    no : (front : List (List (List ℕ))) (rest : List (List ℕ)) (behind : List (List (List ℕ))) → (abc ∷ bc ∷ []) ∷ [] ≡ front ++ ((bc ∷ rest) ∷ behind) → ⊥
    no [] rest behind e = absurd (cc)
    no (f ∷ []) rest behind e = absurd (cc)
    no (f ∷ g ∷ front) rest behind e = absurd (cc)

-- one is left out
left_out : Merges ((abc ∷ bc ∷ []) ∷ []) (abc ∷ []) → ⊥
left_out m = no m.0 m.1 m.2 m.3 m.4
  where
    no : (front : List (List (List ℕ))) (rest : List (List ℕ)) (behind : List (List (List ℕ))) → (abc ∷ bc ∷ []) ∷ [] ≡ front ++ ((abc ∷ rest) ∷ behind) → AllByRecursion (λ xs. xs ≡ []) (front ++ (rest ∷ behind)) → ⊥
    no [] rest behind e none = let empty : rest ≡ [] = none.0 in absurd (cc)
    no (f ∷ []) rest behind e none = absurd (cc)
    no (f ∷ g ∷ front) rest behind e none = absurd (cc)

-- one stands twice
twice : Merges ((abc ∷ []) ∷ []) (abc ∷ abc ∷ []) → ⊥
twice m = no m.0 m.1 m.2 m.3 m.4
  where
    again : (front : List (List (List ℕ))) (rest : List (List ℕ)) (behind : List (List (List ℕ))) → [] ∷ [] ≡ front ++ ((abc ∷ rest) ∷ behind) → ⊥
    again [] rest behind e = absurd (cc)
    again (f ∷ []) rest behind e = absurd (cc)
    again (f ∷ g ∷ front) rest behind e = absurd (cc)

    no : (front : List (List (List ℕ))) (rest : List (List ℕ)) (behind : List (List (List ℕ))) → (abc ∷ []) ∷ [] ≡ front ++ ((abc ∷ rest) ∷ behind) → Merges (front ++ (rest ∷ behind)) (abc ∷ []) → ⊥
    no [] rest behind e more = let same : rest ∷ behind ≡ [] ∷ [] = cc in again more.0 more.1 more.2 (subst (λ (ls : List (List (List ℕ))). ls ≡ more.0 ++ ((abc ∷ more.1) ∷ more.2)) same more.3)
    no (f ∷ []) rest behind e more = absurd (cc)
    no (f ∷ g ∷ front) rest behind e more = absurd (cc)
