-- What a search keeps, as the meaning of programs has it.
use Rattle.std.proofs.Common.{◌≡◌, refl, sym, ap, ◌∙◌, ℕ, ℤ, Bool, true, false, ◌&&◌, List, [], ◌∷◌, ◌++◌, Option, Some, None, length, map, filter, nat_eq, slice_get, drop}
use Rattle.std.specs.Prelude.{cond, flat_map, option_map}
use Rattle.cbl_base.specs.declared.ids.VarId.{VarId}
use Rattle.comet_meaning.specs.Changes as meant
use Rattle.comet_meaning.specs.Changes.{Change, queued_events}
use Rattle.comet_meaning.specs.Draws.{below, next_word}
use Rattle.comet_meaning.specs.Outcome.{Went}
use Rattle.comet_meaning.specs.Search as meaning
use Rattle.comet_meaning.specs.Search.{Search}
use Rattle.comet_meaning.specs.Selection.{chosen_of}
use Rattle.comet_meaning.specs.State.{State}
use Rattle.comet_meaning.specs.Words.{share}
use Rattle.ls_events.specs.Queueing as events
use Rattle.ls_events.specs.declared.change.VarChange.{VarChange}
use Rattle.ls_events.specs.declared.handlers.Handler.{Handler}
use Rattle.ls_events.specs.declared.queue.Event.{Event}
use Rattle.ls_select.specs.Picking.{picked}
use Rattle.run_solvers.specs.Told.{told}
use Rattle.run_search.specs.Searches.{event_seen, handler_seen}

-- ---- the choice among tied candidates

picked_as : (ns : List ℕ) (x : Search) (s : State) → chosen_of ns (record s { search = x }) ≡ Went (picked ns x.words).0 (record s { search = record x { words = (picked ns x.words).1 } })
unfolding chosen_of below next_word share
picked_as [] x s = refl
picked_as (n ∷ []) x s = refl
picked_as (n ∷ m ∷ ns) x s = refl

pub chosen_as : (ns : List ℕ) (s : State) (r : Option ℕ) (y : Search) → r ≡ (picked ns s.search.words).0 → y ≡ record s.search { words = (picked ns s.search.words).1 } → chosen_of ns s ≡ Went r (record s { search = y })
chosen_as ns s r y e f = picked_as ns s.search s ∙ ap (λ (o : Option ℕ). Went o (record s { search = record s.search { words = (picked ns s.search.words).1 } })) (sym e) ∙ ap (λ (x : Search). Went r (record s { search = x })) (sym f)

-- ---- the events of changes

-- those of one change
map_test : (k : ℕ) (c : Change) (h : Handler) (hs : List Handler) (b : Bool) → events.is_of (told k c).var h ≡ b →
    map event_seen (map (events.event_of (told k c)) (filter (events.is_of (told k c).var) hs)) ≡ meant.events_of k (map handler_seen hs) c →
    map event_seen (map (events.event_of (told k c)) (cond b (h ∷ filter (events.is_of (told k c).var) hs) (filter (events.is_of (told k c).var) hs)))
    ≡ map (λ g. record { reaction = g.reaction; old = c.old; new = c.new }) (cond b (handler_seen h ∷ filter (meant.is_handler_of k c.index) (map handler_seen hs)) (filter (meant.is_handler_of k c.index) (map handler_seen hs)))
map_test k c h hs true e same = ap (λ es. record { reaction = h.closure; old = c.old; new = c.new } ∷ es) same
map_test k c h hs false e same = same

events_one : (k : ℕ) (c : Change) (hs : List Handler) → map event_seen (events.events_at hs (told k c)) ≡ meant.events_of k (map handler_seen hs) c
events_one k c [] = refl
events_one k c (h ∷ hs) = map_test k c h hs (events.is_of (told k c).var h) refl (events_one k c hs)

map_append : {A B : Type 0} (f : A → B) (xs ys : List A) → map f (xs ++ ys) ≡ map f xs ++ map f ys
map_append f [] ys = refl
map_append f (x ∷ xs) ys = ap (λ zs. f x ∷ zs) (map_append f xs ys)

-- those of all
pub events_all : (k : ℕ) (hs : List Handler) (cs : List Change) → map event_seen (events.events_of hs (map (told k) cs)) ≡ queued_events k (map handler_seen hs) cs
events_all k hs [] = refl
events_all k hs (c ∷ cs) =
    map_append event_seen (events.events_at hs (told k c)) (events.events_of hs (map (told k) cs))
    ∙ ap (λ es. es ++ map event_seen (events.events_of hs (map (told k) cs))) (events_one k c hs)
    ∙ ap (λ es. meant.events_of k (map handler_seen hs) c ++ es) (events_all k hs cs)

pub queued_behind : (k : ℕ) (hs : List Handler) (cs : List Change) (changes : List VarChange) (before after : List Event) → changes ≡ map (told k) cs → after ≡ before ++ events.events_of hs changes →
    map event_seen after ≡ map event_seen before ++ queued_events k (map handler_seen hs) cs
queued_behind k hs cs changes before after same is =
    ap (map event_seen) is ∙ map_append event_seen before (events.events_of hs changes)
    ∙ ap (λ es. map event_seen before ++ es) (ap (λ xs. map event_seen (events.events_of hs xs)) same ∙ events_all k hs cs)

-- ---- the queue

pub first_seen : (q rest : List Event) (o : Option Event) → (o, rest) ≡ events.next_of q → option_map event_seen o ≡ slice_get (map event_seen q) 0
first_seen [] rest o e = ap (λ (p : Option Event × List Event). option_map event_seen p.0) e
first_seen (x ∷ q) rest o e = ap (λ (p : Option Event × List Event). option_map event_seen p.0) e

pub rest_seen : (q rest : List Event) (o : Option Event) → (o, rest) ≡ events.next_of q → map event_seen rest ≡ drop 1 (map event_seen q)
rest_seen [] rest o e = ap (λ (p : Option Event × List Event). map event_seen p.1) e
rest_seen (x ∷ q) rest o e = ap (λ (p : Option Event × List Event). map event_seen p.1) e
