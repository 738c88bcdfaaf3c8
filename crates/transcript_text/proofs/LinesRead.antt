-- A line of a draft, by what its words tell.
use Rattle.std.proofs.Common.{◌≡◌, refl, ℕ, List, [], ◌∷◌, Some, None}
use Rattle.page_map.specs.declared.ranges.LogEntry.{LogEntry}
use Rattle.transcript_text.specs.declared.transcripts.EntryLine.{EntryLine}
use Rattle.transcript_text.specs.declared.transcripts.FilePart.{FilePart}
use Rattle.transcript_text.specs.declared.transcripts.GuestPart.{GuestPart}
use Rattle.transcript_text.specs.declared.transcripts.Numbered.{Numbered}
use Rattle.transcript_text.specs.TranscriptReading.{Parts, file_of_words, entry_of_words, log_of_words, guest_of_words, numbered_of, file_read, entry_read, log_read, guest_read, call_read}
use Rattle.transcript_text.specs.Drafts.{file_more, entry_more, log_more, guest_more, line_more}

pub file_told : (r : ℕ) (fs : List FilePart) (gs : List GuestPart) (ws : List (List ℕ)) (x : FilePart) → file_of_words ws ≡ Some x → file_read r fs gs ws ≡ file_more x (Parts r fs gs)
unfolding file_read file_more
file_told r fs [] ws x is = rw is refl
file_told r fs (g ∷ gs) ws x is = refl

pub file_untold : (r : ℕ) (fs : List FilePart) (gs : List GuestPart) (ws : List (List ℕ)) → file_of_words ws ≡ None → file_read r fs gs ws ≡ None
unfolding file_read
file_untold r fs [] ws is = rw is refl
file_untold r fs (g ∷ gs) ws is = refl

pub entry_told : (r : ℕ) (fs : List FilePart) (gs : List GuestPart) (ws : List (List ℕ)) (x : EntryLine) → entry_of_words ws ≡ Some x → entry_read r fs gs ws ≡ entry_more x (Parts r fs gs)
unfolding entry_read entry_more
entry_told r fs [] ws x is = rw is refl
entry_told r fs (g ∷ gs) ws x is = refl

pub entry_untold : (r : ℕ) (fs : List FilePart) (gs : List GuestPart) (ws : List (List ℕ)) → entry_of_words ws ≡ None → entry_read r fs gs ws ≡ None
unfolding entry_read
entry_untold r fs [] ws is = rw is refl
entry_untold r fs (g ∷ gs) ws is = refl

pub log_told : (r : ℕ) (fs : List FilePart) (gs : List GuestPart) (ws : List (List ℕ)) (x : LogEntry) → log_of_words ws ≡ Some x → log_read r fs gs ws ≡ log_more x (Parts r fs gs)
unfolding log_read log_more
log_told r fs [] ws x is = rw is refl
log_told r fs (g ∷ gs) ws x is = refl

pub log_untold : (r : ℕ) (fs : List FilePart) (gs : List GuestPart) (ws : List (List ℕ)) → log_of_words ws ≡ None → log_read r fs gs ws ≡ None
unfolding log_read
log_untold r fs [] ws is = rw is refl
log_untold r fs (g ∷ gs) ws is = refl

pub guest_told : (r : ℕ) (fs : List FilePart) (gs : List GuestPart) (ws : List (List ℕ)) (x : GuestPart) → guest_of_words ws ≡ Some x → guest_read r fs gs ws ≡ guest_more x (Parts r fs gs)
unfolding guest_read guest_more
guest_told r fs gs ws x is = rw is refl

pub guest_untold : (r : ℕ) (fs : List FilePart) (gs : List GuestPart) (ws : List (List ℕ)) → guest_of_words ws ≡ None → guest_read r fs gs ws ≡ None
unfolding guest_read
guest_untold r fs gs ws is = rw is refl

pub call_told : (r : ℕ) (fs : List FilePart) (gs : List GuestPart) (ws : List (List ℕ)) (x : Numbered) → numbered_of ws ≡ Some x → call_read r fs gs ws ≡ line_more x (Parts r fs gs)
unfolding call_read line_more
call_told r fs gs ws x is = rw is refl

pub call_untold : (r : ℕ) (fs : List FilePart) (gs : List GuestPart) (ws : List (List ℕ)) → numbered_of ws ≡ None → call_read r fs gs ws ≡ None
unfolding call_read
call_untold r fs gs ws is = rw is refl
