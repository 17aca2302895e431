-- What each call on the running things answers and leaves, by the definitions of the library's calls.
use Rattle.std.specs.Prelude.{ℕ, zero, suc, ◌%◌, List, [], ◌∷◌, ◌++◌, Result, Ok, Err, cond, eqb, leb, length, get_or, take, drop}
use Rattle.calls.specs.Answer.{Answer}
use Rattle.calls.specs.Bits.{ff_mark_ff_vs_dirty, ff_take_ff_vs_dirty}
use Rattle.calls.specs.Images.{ff_image_fresh, ff_image_check}
use Rattle.calls.specs.Materials.{ff_set_material, ff_material}
use Rattle.calls.specs.RenderStates.{ff_set_fog_start, ff_set_fog_end, ff_set_fog_density, ff_set_ambient, ff_set_texture_mask}
use Rattle.light_calls.specs.Lights.{ff_set_light_at, ff_set_light_enabled_at, ff_get_light_at, ff_is_light_enabled_at, ff_is_light_defined_at, ff_vs_source_light_inputs, ff_compacted_light_masks}
use Rattle.pack_calls.specs.Fill.{ff_fill_section}
use Rattle.pack_calls.specs.Key as Key
use Rattle.pack_calls.specs.RowCounts.{ff_section_rows, host_row_count}
use Rattle.refresh_calls.specs.Mirror.{ff_refresh}
use Rattle.sections.specs.Sections as Sections
use Rattle.sections.specs.declared.key.FfVsKey.{FfVsKey}
use Rattle.sections.specs.declared.sections.Section.{Section}
use Rattle.sections.specs.declared.sections.UnknownSection.{UnknownSection}
use Rattle.transform_calls.specs.Transforms.{ff_set_transform, ff_multiply_transform, ff_transform, ff_world_palette_used, ff_world_view_projection}
use Rattle.replay_images.specs.Machine.{Done, done, with_image, with_item, with_mirror, put_item, put_key, put_image, put_mirror, told}
use Rattle.replay_images.specs.declared.machine.Machine.{Machine}
use Rattle.replay_text.specs.declared.answer.Words.{Words}
use Rattle.replay_text.specs.declared.answer.Unanswered.{Unanswered}
use Rattle.replay_text.specs.declared.answer.Unanswered.TheVariants.{Refused, BadLine}
use Rattle.replay_calls.specs.Letters.{line_of, field_of}
use Rattle.replay_calls.specs.declared.call.Call.{Call}
use Rattle.replay_calls.specs.declared.call.Call.TheVariants.{ImageFresh, ImageCheck, SetTransform, MultiplyTransform, Transform, WorldPaletteUsed, WorldViewProjection, SetMaterial, Material, SetLightAt, SetLightEnabledAt, GetLightAt, IsLightEnabledAt, IsLightDefinedAt, VsSourceLightInputs, CompactedLightMasks, MarkFfVsDirty, TakeFfVsDirty, SetField, Refresh, FillSection, SectionRows}
use Rattle.replay_calls.specs.declared.call.Line.{Line}
use Rattle.replay_calls.specs.declared.call.Line.TheVariants as Lines
use Rattle.replay_calls.specs.declared.call.Field.{Field}
use Rattle.replay_calls.specs.declared.call.Field.TheVariants.{FogStart, FogEnd, FogDensity, Ambient, TextureMask}

-- the number that a call was lent, or that of its refusal
abbrev pub numbered : ℕ → ℕ → Result ℕ Unanswered
numbered zero n = Ok n
numbered (suc code) n = Err (Refused (suc code))

abbrev pub bad_line : {A : Type 0} → Machine → Done A
bad_line m = done (Err BadLine) m

-- a call that reads, and one that leaves the image, or the first n bytes of the item or of the mirror
abbrev pub reads : Machine → Answer ℕ → Done ℕ
reads m x = done (numbered x.code x.out) m

abbrev pub over_image : Machine → Answer (List ℕ) → Done ℕ
over_image m x = done (numbered x.code 0) (with_image m x.out)

abbrev pub over_item : ℕ → Machine → Answer (List ℕ) → Done ℕ
over_item n m x = done (numbered x.code 0) (with_item m (x.out ++ drop n m.item))

abbrev pub over_mirror : ℕ → Machine → Answer (List ℕ) → Done ℕ
over_mirror n m x = done (numbered x.code 0) (with_mirror m (x.out ++ drop n m.mirror))

-- what is lent are the first n bytes of a place, which has as many
abbrev pub lent : ℕ → List ℕ → Machine → (List ℕ → Done ℕ) → Done ℕ
lent n place m call = cond (leb n (length place)) (call (take n place)) (bad_line m)

-- the key's eight bytes
abbrev pub key_of : List ℕ → FfVsKey
key_of b =
    Key.key_of (get_or b 0 0) (get_or b 1 0) (get_or b 2 0) (get_or b 3 0) (get_or b 4 0) (get_or b 5 0) (get_or b 6 0) (get_or b 7 0)

-- the four things, as they are lent one by one
abbrev pub machine_of : List ℕ → List ℕ → List ℕ → List ℕ → Machine
machine_of image item key mirror = record { image = image; item = item; key = key; mirror = mirror }

-- the section of a dirty bit, or for another number a bad line
abbrev pub named_section : Result Section UnknownSection → Result Section Unanswered
named_section (Ok σ) = Ok σ
named_section (Err e) = Err BadLine

abbrev pub section_of : ℕ → Result Section Unanswered
section_of bit = named_section (Sections.section_of bit)

-- with what a word names, or for no name a bad line
abbrev pub named : {A : Type 0} → Machine → Result A Unanswered → (A → Done ℕ) → Done ℕ
named m (Ok x) call = call x
named m (Err why) call = done (Err why) m

abbrev pub set_field : Field → ℕ → List ℕ → Answer (List ℕ)
set_field FogStart w image = ff_set_fog_start image w
set_field FogEnd w image = ff_set_fog_end image w
set_field FogDensity w image = ff_set_fog_density image w
set_field Ambient w image = ff_set_ambient image w
set_field TextureMask w image = ff_set_texture_mask image (w % 256)

-- a line that only puts something is lent no number
abbrev pub lent_none : Result (Unit {0}) Unanswered → Result ℕ Unanswered
lent_none (Ok x) = Ok 0
lent_none (Err why) = Err why

abbrev pub puts : Done (Unit {0}) → Done ℕ
puts d = done (lent_none d.answer) d.machine

-- what a call of the library leaves
abbrev pub made : Call → ℕ → ℕ → Machine → Done ℕ
made ImageFresh a b m =
    lent b m.image m (λ part. let x = ff_image_fresh part in done (numbered x.code 0) (with_image m (x.out ++ drop b m.image)))
made ImageCheck a b m = lent b m.image m (λ part. done (numbered (ff_image_check part) 0) m)
made SetTransform a b m = lent b m.item m (λ part. over_image m (ff_set_transform m.image a part))
made MultiplyTransform a b m = lent b m.item m (λ part. over_image m (ff_multiply_transform m.image a part))
made Transform a b m = lent b m.item m (λ part. over_item b m (ff_transform m.image a part))
made WorldPaletteUsed a b m = reads m (ff_world_palette_used m.image 0)
made WorldViewProjection a b m = lent b m.item m (λ part. over_item b m (ff_world_view_projection m.image part))
made SetMaterial a b m = lent b m.item m (λ part. over_image m (ff_set_material m.image part))
made Material a b m = lent b m.item m (λ part. over_item b m (ff_material m.image part))
made SetLightAt a b m = lent b m.item m (λ part. over_image m (ff_set_light_at m.image a part))
made SetLightEnabledAt a b m = over_image m (ff_set_light_enabled_at m.image a b)
made GetLightAt a b m = lent b m.item m (λ part. over_item b m (ff_get_light_at m.image a part))
made IsLightEnabledAt a b m = reads m (ff_is_light_enabled_at m.image a 0)
made IsLightDefinedAt a b m = reads m (ff_is_light_defined_at m.image a 0)
made VsSourceLightInputs a b m = reads m (ff_vs_source_light_inputs m.image 0)
made CompactedLightMasks a b m = reads m (ff_compacted_light_masks m.image 0)
made MarkFfVsDirty a b m = over_image m (ff_mark_ff_vs_dirty m.image a)
made TakeFfVsDirty a b m =
    let x = ff_take_ff_vs_dirty m.image 0 in done (numbered x.code x.out.number) (with_image m x.out.image)
made SetField a b m = named m (field_of a) (λ field. over_image m (set_field field b m.image))
made Refresh a b m =
    lent b m.mirror m (λ part. let x = ff_refresh m.image (key_of m.key) part 0 in done (numbered x.code x.out.bits) (record m { image = x.out.image; mirror = x.out.mirror ++ drop b m.mirror }))
made FillSection a b m =
    named m (section_of a) (λ σ. lent b m.mirror m (λ part. over_mirror b m (ff_fill_section σ m.image (key_of m.key) part)))
made SectionRows a b m =
    cond (eqb a 0) (reads m (host_row_count m.image (key_of m.key) 0)) (named m (section_of a) (λ σ. reads m (ff_section_rows σ m.image (key_of m.key) 0)))

-- an accepted line tells its number, and the digests
abbrev pub words_told : Machine → Result ℕ Unanswered → Result Words Unanswered
words_told m (Ok n) = Ok (told m n)
words_told m (Err why) = Err why

abbrev pub tells : Done ℕ → Done Words
tells d = done (words_told d.machine d.answer) d.machine

-- a line of n words
abbrev pub by_words : ℕ → List ℕ → Machine → Done ℕ → Done ℕ
by_words n words m d = cond (eqb (length words) n) d (bad_line m)

abbrev pub line_made : Line → List ℕ → Machine → Done ℕ
line_made Lines.PutItem words m = by_words 26 words m (done (Ok 0) (put_item m words))
line_made Lines.PutImage words m = by_words 2 words m (puts (put_image m (get_or words 0 0) (get_or words 1 0)))
line_made Lines.PutKey words m = by_words 2 words m (done (Ok 0) (put_key m (get_or words 0 0) (get_or words 1 0)))
line_made Lines.PutMirror words m = by_words 2 words m (puts (put_mirror m (get_or words 0 0) (get_or words 1 0)))
line_made (Lines.Call call) words m = by_words 2 words m (made call (get_or words 0 0) (get_or words 1 0) m)

-- what the line of a letter and some words leaves
abbrev pub image_call : ℕ → List ℕ → Machine → Done Words
image_call letter words m = tells (named m (line_of letter) (λ line. line_made line words m))
