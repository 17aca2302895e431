-- Lights by ascending index. Document 01, 'The list and the count of demand 3' and 'Calls that change the state'; in Direct3D IDirect3DDevice9::SetLight, LightEnable, GetLight, GetLightEnable.
use Rattle.std.specs.Prelude.{ℕ, suc, Bool, true, false, cond, ◌&&◌, List, [], ◌∷◌, leb, ltb, eqb}
use Rattle.std.proofs.Math.Option.{Option, none, some}
use Rattle.d3d9_types.specs.Light.{default_light}
use Rattle.d3d9_types.specs.declared.light.D3DLIGHT9.{D3DLIGHT9}
use Rattle.d3d9_model.specs.State.{AbstractLight, AbstractState}

abbrev pub indexed_light : ℕ → Bool → D3DLIGHT9 → AbstractLight
indexed_light i on l = record { index = i; enabled = on; light = l }

-- the light of an index, if there is one
unfoldable pub lookup : ℕ → List AbstractLight → Option AbstractLight
lookup i [] = none
lookup i (l ∷ ls) = cond (eqb l.index i) (some l) (lookup i ls)

-- the light of an index changed; where there is none, a new one put in before the first of a higher index
unfoldable pub changed_at : ℕ → (AbstractLight → AbstractLight) → AbstractLight → List AbstractLight → List AbstractLight
changed_at i change new [] = new ∷ []
changed_at i change new (l ∷ ls) =
    cond (ltb l.index i) (l ∷ changed_at i change new ls)
    (cond (eqb l.index i) (change l ∷ ls) (new ∷ l ∷ ls))

-- "Setting a light replaces it and keeps the enable, off if new."
unfoldable pub light_set : ℕ → D3DLIGHT9 → List AbstractLight → List AbstractLight
light_set i l = changed_at i (λ e. indexed_light i e.enabled l) (indexed_light i false l)

-- "Enable replaces the enable, adding the default light where there is none."
unfoldable pub light_enabled : ℕ → Bool → List AbstractLight → List AbstractLight
light_enabled i on = changed_at i (λ e. indexed_light i on e.light) (indexed_light i on default_light)

-- how many have an index of 8 or more
unfoldable pub count_beyond : List AbstractLight → ℕ
count_beyond [] = 0
count_beyond (l ∷ ls) = cond (leb 8 l.index) (suc (count_beyond ls)) (count_beyond ls)

-- "Types other than 1 point, 2 spot, 3 directional are stored and light nothing."
unfoldable pub lights? : AbstractLight → Bool
lights? l = l.enabled && (leb 1 l.light.type_ && leb l.light.type_ 3)

-- the lights that are on and light something
unfoldable pub active_of : List AbstractLight → List D3DLIGHT9
active_of [] = []
active_of (l ∷ ls) = cond (lights? l) (l.light ∷ active_of ls) (active_of ls)

-- ---- the reads

unfoldable pub abstract_light : AbstractState → ℕ → Option AbstractLight
abstract_light a i = lookup i a.lights

unfoldable pub is_there : Option AbstractLight → Bool
is_there none = false
is_there (some l) = true

unfoldable pub is_on : Option AbstractLight → Bool
is_on none = false
is_on (some l) = l.enabled

-- "active slots 0 to 7 ascending, then active overflow lights by ascending index": the active lights by ascending index
unfoldable pub abstract_active : AbstractState → List D3DLIGHT9
abstract_active a = active_of a.lights
