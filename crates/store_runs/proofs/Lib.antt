mod NumberStores
