-- That the entries of a port have replies that their requests can have is a fact, and holds of those that are left.
use Rattle.std.specs.Prelude.{ℕ, zero, suc, Option, None, Some, List, [], ◌∷◌, drop}
use Rattle.std.specs.Coded.{Unit-prop, le_prop}
use Rattle.best_monitor.specs.declared.request.Request.TheVariants.{Report, Value, Second, Has, Copy, Stop, Stopped}
use Rattle.best_monitor.specs.declared.request.Reply.{Reply}
use Rattle.best_monitor.specs.declared.request.Reply.TheVariants.{Truth, Number, Missing, Long, Done}
use Rattle.best_monitor.specs.declared.request.Reply.TheVariants.{List as Listed}
use Rattle.best_monitor.specs.Replies.{IsTruth, IsValue, IsCopy, IsDone}
use Rattle.best_monitor.specs.Port.{HoldsAll}
use Rattle.pool_monitor.specs.declared.request.PoolRequest.TheVariants.{Add, Size, Rank, Take}
use Rattle.pool_monitor.specs.declared.request.DeskRequest.{DeskRequest}
use Rattle.pool_monitor.specs.declared.request.DeskRequest.TheVariants.{Best, Pool}
use Rattle.pool_monitor.specs.Replies.{IsNumber, CanHave}

⊥_prop : IsProp ⊥
⊥_prop a b = absurd a

truth_prop : (reply : Reply) → IsProp (IsTruth reply)
truth_prop (Truth holds) = Unit-prop
truth_prop (Number value) = ⊥_prop
truth_prop (Listed list) = ⊥_prop
truth_prop Missing = ⊥_prop
truth_prop (Long size) = ⊥_prop
truth_prop Done = ⊥_prop

number_prop : (reply : Reply) → IsProp (IsNumber reply)
number_prop (Truth holds) = ⊥_prop
number_prop (Number value) = Unit-prop
number_prop (Listed list) = ⊥_prop
number_prop Missing = ⊥_prop
number_prop (Long size) = ⊥_prop
number_prop Done = ⊥_prop

value_prop : (reply : Reply) → IsProp (IsValue reply)
value_prop (Truth holds) = ⊥_prop
value_prop (Number value) = Unit-prop
value_prop (Listed list) = ⊥_prop
value_prop Missing = Unit-prop
value_prop (Long size) = ⊥_prop
value_prop Done = ⊥_prop

copy_prop : (room : ℕ) (reply : Reply) → IsProp (IsCopy room reply)
copy_prop room (Truth holds) = ⊥_prop
copy_prop room (Number value) = ⊥_prop
copy_prop room (Listed list) = le_prop
copy_prop room Missing = Unit-prop
copy_prop room (Long size) = Unit-prop
copy_prop room Done = ⊥_prop

done_prop : (reply : Reply) → IsProp (IsDone reply)
done_prop (Truth holds) = ⊥_prop
done_prop (Number value) = ⊥_prop
done_prop (Listed list) = ⊥_prop
done_prop Missing = ⊥_prop
done_prop (Long size) = ⊥_prop
done_prop Done = Unit-prop

can_have_prop : (request : DeskRequest) (reply : Reply) → IsProp (CanHave request reply)
can_have_prop (Best (Report m value second list)) reply = truth_prop reply
can_have_prop (Best (Value m)) reply = value_prop reply
can_have_prop (Best (Second m)) reply = value_prop reply
can_have_prop (Best (Has m)) reply = truth_prop reply
can_have_prop (Best (Copy m room)) reply = copy_prop room reply
can_have_prop (Best (Stop m)) reply = done_prop reply
can_have_prop (Best (Stopped m)) reply = truth_prop reply
can_have_prop (Pool (Add p value list)) reply = truth_prop reply
can_have_prop (Pool (Size p)) reply = number_prop reply
can_have_prop (Pool (Rank p rank)) reply = value_prop reply
can_have_prop (Pool (Take p rank room)) reply = copy_prop room reply

pub had_prop : (rest : Option (List (DeskRequest × Reply))) → IsProp (HoldsAll CanHave rest)
had_prop None = Unit-prop
had_prop (Some rest) = λ a b j i e is. can_have_prop e.0 e.1 (a i e is) (b i e is) j

pub left_had : {Q R : Type 0} (P : Q → R → Type 0) (n : ℕ) (pairs : List (Q × R)) → HoldsAll P (Some pairs) → HoldsAll P (Some (drop n pairs))
left_had P zero pairs had = had
left_had P (suc n) [] had = had
left_had P (suc n) (x ∷ xs) had = left_had P n xs (λ i e is. had (suc i) e is)
