-- The number of each refusal at the hut, and of what a call returns: 0 where it is taken.
use Rattle.std.specs.Prelude.{ℕ, Result, Ok, Err}
use Rattle.refusal.specs.declared.Refusal.{Refusal}
use Rattle.refusal.specs.declared.Refusal.TheVariants.{BadBookLength, BadCount, BadSetting, BadSheetLength, UnknownCode, UnknownCrossing, UnknownPlace, UnknownValue, TrackFull, NoTrain, TrainCalling, NotClear, NotDependent, BadOutputLength, OutOfRange, UnknownSender, NoRight, ShiftTooLong, BadSpeed, BadRetardation, BadGradient}
use Rattle.machine.specs.Numbers.{bad_book_length, bad_count, bad_setting, bad_sheet_length, unknown_code, unknown_crossing, unknown_place, unknown_value, track_full, no_train, train_calling, not_clear, not_dependent, bad_output_length, out_of_range, unknown_sender, no_right, shift_too_long, bad_speed, bad_retardation, bad_gradient}

-- the number of each case
abbrev pub hut_number : Refusal → ℕ
hut_number BadBookLength = bad_book_length
hut_number BadCount = bad_count
hut_number BadSetting = bad_setting
hut_number BadSheetLength = bad_sheet_length
hut_number UnknownCode = unknown_code
hut_number UnknownCrossing = unknown_crossing
hut_number UnknownPlace = unknown_place
hut_number UnknownValue = unknown_value
hut_number TrackFull = track_full
hut_number NoTrain = no_train
hut_number TrainCalling = train_calling
hut_number NotClear = not_clear
hut_number NotDependent = not_dependent
hut_number BadOutputLength = bad_output_length
hut_number OutOfRange = out_of_range
hut_number UnknownSender = unknown_sender
hut_number NoRight = no_right
hut_number ShiftTooLong = shift_too_long
hut_number BadSpeed = bad_speed
hut_number BadRetardation = bad_retardation
hut_number BadGradient = bad_gradient

-- the number of what a call returns
abbrev pub number_of : {A : Type 0} → Result A Refusal → ℕ
number_of (Ok _) = 0
number_of (Err refusal) = hut_number refusal
