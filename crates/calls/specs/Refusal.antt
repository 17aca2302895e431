-- Document 01's number of each refusal, and of an answer: 0 for a call that is accepted.
use Rattle.std.specs.Prelude.{ℕ, Result, Ok, Err, List, cond, eqb, length, codes}
use Rattle.ff_state.specs.Dirty.{unknown_bits_text}
use Rattle.ff_state.specs.Lights.{table_full_text}
use Rattle.ff_state.specs.Transforms.{unknown_state_text}
use Rattle.image.specs.Read.{not_an_image_text}
use Rattle.refresh.specs.Answer.{refresh_error_text}
use Rattle.refresh.specs.declared.answer.RefreshError.TheVariants as RefreshErrors
use Rattle.calls.specs.declared.refusal.Refusal.{Refusal}
use Rattle.calls.specs.declared.refusal.Refusal.TheVariants.{UnknownState, UndefinedLight, TableFull, WrongLength, WrongMask, Singular, UnknownBits, HasRhw, NotAnImage}

abbrev pub refusal_number : Refusal → ℕ
refusal_number UnknownState = 1
refusal_number UndefinedLight = 2
refusal_number TableFull = 3
refusal_number WrongLength = 4
refusal_number WrongMask = 5
refusal_number Singular = 6
refusal_number UnknownBits = 7
refusal_number HasRhw = 8
refusal_number NotAnImage = 9

-- what is written of each: the text of the error that a call by value answers, where it has one alone
abbrev pub refusal_text : Refusal → List ℕ
refusal_text UnknownState = unknown_state_text
refusal_text UndefinedLight = codes "no light is defined at this index"
refusal_text TableFull = table_full_text
refusal_text WrongLength = codes "a slice is not as long as its item"
refusal_text WrongMask = refresh_error_text RefreshErrors.WrongMask
refusal_text Singular = codes "the matrix has no inverse"
refusal_text UnknownBits = unknown_bits_text
refusal_text HasRhw = refresh_error_text RefreshErrors.HasRhw
refusal_text NotAnImage = not_an_image_text

abbrev pub code : {A : Type 0} → Result A Refusal → ℕ
code (Ok x) = 0
code (Err e) = refusal_number e

-- what stands in the place for a result: the result, or beside a refusal what stood there
abbrev pub value_or : {A : Type 0} → A → Result A Refusal → A
value_or out (Ok x) = x
value_or out (Err e) = out

-- 4 for a slice that is not as long as its item
unfoldable pub length_answer : ℕ → List ℕ → Result (Unit {0}) Refusal
length_answer n bytes = cond (eqb (length bytes) n) (Ok tt) (Err WrongLength)

-- the item that is all of a slice
abbrev pub item_answer : {A : Type 0} → (List ℕ → ℕ → A) → ℕ → List ℕ → Result A Refusal
item_answer at n bytes = cond (eqb (length bytes) n) (Ok (at bytes 0)) (Err WrongLength)
